pub mod Overlay
pub mod Store
pub mod Image
