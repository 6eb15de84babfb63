pub mod Stated
pub mod Counts
pub mod FromFormatToCleaning
pub mod CallRefusals
pub mod Cuts
pub mod Refusals
