pub mod Called
pub mod Carrying
pub mod Handing
pub mod Made
pub mod Outcomes
pub mod Registers
pub mod Returned
pub mod Started
