pub mod Conditions
pub mod Defined
pub mod Finding
pub mod Laws
pub mod Reading
pub mod Trees
pub mod Values
