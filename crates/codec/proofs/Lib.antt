pub mod Table
pub mod Sizes
pub mod Roles
pub mod Units
