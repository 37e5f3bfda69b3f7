pub mod Counts
pub mod Forms
pub mod Laws
pub mod Scoping
pub mod Slots
