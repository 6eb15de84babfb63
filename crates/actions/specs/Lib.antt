pub mod Nth
pub mod Staging
pub mod Record
