pub mod Joining
pub mod Leaving
pub mod Passes
