pub mod Seeking
pub mod Placing
pub mod Found
pub mod Joining
pub mod Ascents
