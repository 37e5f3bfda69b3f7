pub mod Emitted
pub mod LeftForms
pub mod Lists
pub mod NoPlaces
pub mod Nodes
pub mod Rows
pub mod Tests
