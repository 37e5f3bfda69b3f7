pub mod AtOnce
pub mod Lanes
pub mod Seen
