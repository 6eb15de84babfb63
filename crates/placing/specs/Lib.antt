pub mod Found
pub mod Blocks
