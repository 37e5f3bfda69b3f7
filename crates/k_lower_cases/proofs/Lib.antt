pub mod Cased
pub mod Counted
pub mod Fronts
