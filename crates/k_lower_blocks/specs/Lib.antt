pub mod Arounds
pub mod Places
