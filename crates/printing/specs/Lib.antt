pub mod Lines
pub mod Print
pub mod Pages
