pub mod Spelling
pub mod Decimals
pub mod Texts
pub mod Columns
