pub mod Nth
pub mod Bounds
pub mod Appends
pub mod Appending
pub mod Committing
pub mod Formatting
pub mod Performed
pub mod States
pub mod Filling
pub mod Holding
mod Worked
pub mod Acting
