pub mod Calls
pub mod Changes
pub mod Laws
pub mod Layout
pub mod Memory
