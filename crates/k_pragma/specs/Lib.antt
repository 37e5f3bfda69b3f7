pub mod Names
pub mod Conditions
pub mod Clauses
pub mod Marked
pub mod Insertions
