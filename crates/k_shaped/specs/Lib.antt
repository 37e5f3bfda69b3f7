pub mod Accepted
pub mod Letters
pub mod Padding
pub mod Reading
pub mod ShapedLaws
pub mod Spelling
pub mod Texts
