pub mod Stands
pub mod Cursor
pub mod Best
pub mod Short
