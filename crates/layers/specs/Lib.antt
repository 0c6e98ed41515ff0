pub mod Laws
pub mod Excluded
pub mod Falling
