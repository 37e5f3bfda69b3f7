pub mod Bodies
pub mod Forms
pub mod Laws
pub mod Taking
