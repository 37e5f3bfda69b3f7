pub mod AnyFile
pub mod Laws
pub mod Reading
pub mod SumFile
