pub mod Laws
pub mod Plan
pub mod Recast
pub mod Saving
