pub mod Arguments
pub mod First
pub mod Macros
pub mod Machine
