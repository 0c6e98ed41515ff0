pub mod Arguments
pub mod Packing
