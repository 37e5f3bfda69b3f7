pub mod Among
pub mod ByContext
pub mod ByRegion
pub mod Judged
pub mod Picked
pub mod Telling
pub mod Walking
