pub mod Chunks
pub mod Stands
pub mod Walk
pub mod Scan
pub mod Shifts
