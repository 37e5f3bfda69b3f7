pub mod Kept
pub mod Leaving
pub mod Results
pub mod Seen
