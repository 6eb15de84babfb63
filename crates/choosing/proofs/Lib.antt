pub mod Bounds
pub mod Laws
pub mod Loop
pub mod Answers
