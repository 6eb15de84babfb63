pub mod Ahead
pub mod Once
pub mod Freed
pub mod Cleaning
