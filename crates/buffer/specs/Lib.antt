pub mod Areas
pub mod Bits
