pub mod Carried
pub mod Gathered
pub mod Laws
