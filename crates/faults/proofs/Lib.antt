pub mod Places
pub mod Units
pub mod Adding
pub mod Sweeps
pub mod Ends
pub mod Left
pub mod Answers
