pub mod Expressions
pub mod Formats
pub mod Programs
pub mod Statements
pub mod Totals
