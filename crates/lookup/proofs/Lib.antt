pub mod Looks
pub mod Entries
pub mod Slots
pub mod Answers
pub mod Alike
