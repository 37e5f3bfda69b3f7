pub mod Recorded
pub mod Replayed
