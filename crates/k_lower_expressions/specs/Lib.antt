pub mod Arounds
pub mod Emits
pub mod Families
pub mod Makings
