pub mod ExpressionSums
pub mod Extents
pub mod Sized
pub mod StatementSums
