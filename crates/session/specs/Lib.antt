pub mod Asks
pub mod Cleaned
pub mod State
pub mod Filter
pub mod Fits
pub mod Promise
pub mod Numbers
