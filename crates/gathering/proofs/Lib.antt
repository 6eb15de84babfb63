pub mod SizeWords
pub mod Leaves
pub mod Kept
pub mod Measures
pub mod Sizes
pub mod Words
pub mod Passes
pub mod Chunks
