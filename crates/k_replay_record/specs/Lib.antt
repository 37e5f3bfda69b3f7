pub mod Acts
pub mod Serial
pub mod Records
pub mod Recorded
