pub mod Space
pub mod PlaceFound
pub mod Hint
pub mod Staged
pub mod Search
pub mod SlotFound
pub mod Full
mod Worked
