pub mod Firsts
pub mod Headers
pub mod Units
