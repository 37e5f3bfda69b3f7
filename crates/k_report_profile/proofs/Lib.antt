pub mod Named
pub mod OneRun
pub mod Recorded
pub mod Reported
pub mod Summed
