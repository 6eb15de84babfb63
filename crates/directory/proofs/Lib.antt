pub mod Ranges
pub mod Roles
pub mod Tests
pub mod Search
pub mod Several
pub mod Answer
