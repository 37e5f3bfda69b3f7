pub mod Around
pub mod Blocks
pub mod InOrder
pub mod Places
