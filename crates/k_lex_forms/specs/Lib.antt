pub mod Directives
pub mod Laws
pub mod Sources
pub mod Tokens
