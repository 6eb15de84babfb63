pub mod Batch
pub mod Contents
pub mod Fold
