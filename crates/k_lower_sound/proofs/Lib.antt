pub mod Apart
pub mod Jumps
pub mod Lengths
pub mod Numbers
pub mod Programs
pub mod Statements
