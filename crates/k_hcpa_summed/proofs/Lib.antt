pub mod Each
pub mod Known
pub mod Kept
pub mod Closed
pub mod Levels
pub mod Summaries
pub mod Leaving
