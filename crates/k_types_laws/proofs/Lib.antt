pub mod BeginningsElaborate
pub mod DeclaredElaborate
pub mod SizesElaborate
pub mod Strings
