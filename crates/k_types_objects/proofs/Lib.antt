pub mod Distances
pub mod Extents
