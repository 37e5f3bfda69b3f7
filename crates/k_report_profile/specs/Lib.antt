pub mod Laws
pub mod Report
pub mod RunReport
pub mod Summed
