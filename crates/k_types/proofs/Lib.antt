pub mod Faults
pub mod Functions
pub mod Heads
pub mod Items
pub mod Parameters
pub mod Places
pub mod Rests
pub mod Sources
