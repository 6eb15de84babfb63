pub mod Pass
pub mod Runs
pub mod Sums
pub mod Skips
pub mod Opens
