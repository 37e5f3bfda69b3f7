pub mod Done
pub mod Planned
pub mod Recasting
pub mod Shares
