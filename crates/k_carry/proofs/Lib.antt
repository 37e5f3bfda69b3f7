pub mod Advancing
pub mod Citing
pub mod Noticing
pub mod Starting
pub mod Stepping
