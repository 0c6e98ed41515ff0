pub mod Parts
pub mod Told
pub mod Law
pub mod Bounds
