pub mod Classes
pub mod Passing
pub mod Heads
pub mod Pass
