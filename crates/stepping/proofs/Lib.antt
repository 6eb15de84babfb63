pub mod Cleaned
pub mod CleanShows
pub mod Keeping
pub mod Shows
pub mod Cleaning
