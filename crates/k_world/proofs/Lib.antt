mod Examples
pub mod Alike
pub mod Effects
pub mod Elements
pub mod Filled
pub mod Listed
pub mod MoreOperations
pub mod Near
pub mod Operations
pub mod Origins
pub mod Sorted
pub mod Sound
pub mod Stored
