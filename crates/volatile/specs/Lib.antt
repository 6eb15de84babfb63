pub mod Known
pub mod Check
pub mod Plain
pub mod Sums
pub mod Change
pub mod Blocks
