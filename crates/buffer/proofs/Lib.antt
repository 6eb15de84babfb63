pub mod Word
pub mod Laws
mod Wrong
