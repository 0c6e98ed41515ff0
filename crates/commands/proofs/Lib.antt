pub mod Packed
pub mod Reread
pub mod Trails
