pub mod Shown
pub mod Script
pub mod Images
pub mod Cut
