pub mod Held
pub mod Added
pub mod Steps
pub mod Ended
pub mod Formed
