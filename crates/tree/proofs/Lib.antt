pub mod Filed
pub mod Spelled
pub mod Laid
pub mod Manifested
