pub mod Begun
pub mod Known
pub mod Admits
pub mod Shows
pub mod Staging
pub mod Blocks
