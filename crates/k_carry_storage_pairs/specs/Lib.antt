pub mod Accesses
pub mod Deep
pub mod Firsts
pub mod Kept
pub mod Laws
pub mod Storage
