pub mod ByContexts
pub mod ByPaths
pub mod Examples
pub mod OneByPaths
pub mod Renumbering
