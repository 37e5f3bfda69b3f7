pub mod Content
pub mod Maps
pub mod Numbers
pub mod Rooms
pub mod Rows
pub mod Stack
