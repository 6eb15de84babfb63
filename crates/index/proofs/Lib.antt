pub mod Slots
pub mod Used
pub mod Laws
pub mod Keys
pub mod Probing
pub mod Answers
pub mod Shift
pub mod Removal
