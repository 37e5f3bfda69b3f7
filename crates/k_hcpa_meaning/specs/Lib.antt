pub mod Behind
pub mod Calls
pub mod Locations
pub mod Summed
pub mod Summing
pub mod Timed
pub mod Timings
