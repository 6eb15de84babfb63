pub mod Accepted
pub mod Rest
pub mod Batch
pub mod Stage
pub mod Clean
