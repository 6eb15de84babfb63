pub mod FormatShows
