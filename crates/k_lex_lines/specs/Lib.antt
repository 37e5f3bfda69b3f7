pub mod Directives
pub mod Laws
pub mod Lines
pub mod Reading
pub mod Sections
pub mod Text
