pub mod Large
pub mod Admitting
pub mod Staging
pub mod Planned
