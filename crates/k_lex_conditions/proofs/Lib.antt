pub mod Complete
pub mod Decided
pub mod Found
pub mod Operands
pub mod Sound
