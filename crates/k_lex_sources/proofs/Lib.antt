pub mod Examples
pub mod JoinLaws
pub mod RowLaws
