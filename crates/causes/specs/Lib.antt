pub mod Told
pub mod Wording
