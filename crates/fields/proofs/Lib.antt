pub mod Pieces
pub mod Openings
