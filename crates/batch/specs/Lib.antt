pub mod Items
pub mod Marks
pub mod Added
pub mod Staged
