pub mod Lists
pub mod Places
pub mod Sizes
pub mod Words
pub mod Through
pub mod PutBack
