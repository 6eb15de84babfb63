pub mod Plans
pub mod Begun
pub mod Outsets
