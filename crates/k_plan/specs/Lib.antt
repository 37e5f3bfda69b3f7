pub mod Best
pub mod Choices
pub mod Laws
pub mod Plan
pub mod Saving
