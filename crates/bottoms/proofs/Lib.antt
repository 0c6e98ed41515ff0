pub mod Entering
pub mod Seeking
