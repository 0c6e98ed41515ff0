pub mod Fields
pub mod Pairs
pub mod Openings
pub mod Views
pub mod Samples
