pub mod Exits
pub mod Joining
pub mod Laws
pub mod SumText
pub mod Sums
