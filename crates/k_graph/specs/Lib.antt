pub mod Chains
pub mod Chosen
pub mod Levels
pub mod Listings
pub mod Passes
pub mod Times
