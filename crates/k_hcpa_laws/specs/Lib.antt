pub mod Carried
pub mod Depends
pub mod Laws
