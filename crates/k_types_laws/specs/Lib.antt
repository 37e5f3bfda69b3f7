pub mod Beginnings
pub mod Declarators
pub mod Laws
pub mod Sizes
