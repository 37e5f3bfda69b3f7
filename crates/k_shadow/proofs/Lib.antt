pub mod Changed
pub mod Contents
pub mod Entries
pub mod Laws
pub mod Levels
pub mod Places
pub mod Plain
pub mod Rows
