pub mod Uses
pub mod Reductions
pub mod Jumps
pub mod Loops
pub mod Contents
pub mod Marking
