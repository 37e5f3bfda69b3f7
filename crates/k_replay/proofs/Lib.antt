mod Noted
mod Renewed
pub mod Firing
mod Chains
mod Outputs
pub mod Keeping
pub mod Going
pub mod Ordering
mod Stays
pub mod Advancing
pub mod Calling
mod Reading
