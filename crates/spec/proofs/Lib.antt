pub mod Examples
pub mod Slips
pub mod NamedVersions
pub mod Reprints
pub mod Registers
pub mod Stuck
pub mod Powers
