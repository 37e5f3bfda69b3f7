pub mod Annotated
pub mod Laws
pub mod Strict
