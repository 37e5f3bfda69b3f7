pub mod Merges
pub mod Parts
pub mod Phases
pub mod Streams
