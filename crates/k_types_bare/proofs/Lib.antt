pub mod Expressions
pub mod Initialisers
pub mod Nodes
pub mod Statements
pub mod Units
