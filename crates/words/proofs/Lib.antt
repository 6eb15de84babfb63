pub mod Values
pub mod Parts
