pub mod Pieces
pub mod Examples
pub mod Prints
pub mod Pages
