pub mod Blanks
pub mod Telling
