pub mod Tops
pub mod Spots
pub mod Reading
pub mod Faults
