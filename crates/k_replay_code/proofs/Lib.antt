pub mod Adding
pub mod Made
pub mod Making
pub mod Leaving
pub mod Going
pub mod Deeds
