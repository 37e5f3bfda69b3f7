pub mod ExactLaws
pub mod ReductionLaws
pub mod RemainderLaws
pub mod ScaledLaws
pub mod SeriesLaws
pub mod SignLaws
pub mod UnitLaws
