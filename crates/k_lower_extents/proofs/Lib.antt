mod ExpressionExtents
mod ExpressionRows
mod Followed
mod ListedExtents
mod ListedRows
pub mod NestedExtents
mod ProgramExtents
mod RestExtents
mod StatementRows
mod Tables
