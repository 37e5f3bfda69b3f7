pub mod Accesses
pub mod Answer
pub mod Noting
pub mod Running
pub mod Tables
