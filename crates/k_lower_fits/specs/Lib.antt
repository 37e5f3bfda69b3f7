pub mod Costs
pub mod Fits
pub mod Laws
pub mod Placed
