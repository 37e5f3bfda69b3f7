pub mod Distances
pub mod KeptSizes
pub mod ObjectTypes
pub mod Products
