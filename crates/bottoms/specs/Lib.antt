pub mod Items
pub mod Lawful
pub mod Seeking
