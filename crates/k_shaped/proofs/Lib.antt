pub mod LineLaws
pub mod NumberLaws
pub mod PlainLaws
pub mod ReadingLaws
pub mod SpellingLaws
pub mod WidthLaws
