pub mod Starts
pub mod Finding
pub mod PlanShows
pub mod Begun
pub mod BeginShows
pub mod Begins
