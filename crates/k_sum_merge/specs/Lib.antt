pub mod Laws
pub mod Merges
pub mod Sizes
