pub mod Spelled
pub mod Text
