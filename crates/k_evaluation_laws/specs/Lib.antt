pub mod Kinds
pub mod Laws
pub mod Ranges
pub mod Standing
