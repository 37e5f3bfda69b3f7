pub mod Lines
pub mod OneListing
pub mod RegionLists
