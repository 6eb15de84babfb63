pub mod Gates
pub mod Part
pub mod Kept
pub mod Phases
pub mod Zeroed
pub mod OpensRight
