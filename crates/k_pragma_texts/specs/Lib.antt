pub mod Occurrences
pub mod Actions
pub mod Canonical
pub mod Declarations
pub mod Texts
