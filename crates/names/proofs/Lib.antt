pub mod Words
pub mod Scanned
