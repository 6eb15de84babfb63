pub mod Run
pub mod Stores
pub mod Fast
pub mod Staging
pub mod Copying
