pub mod Refused
pub mod Kept
pub mod Lifted
pub mod Raises
pub mod Makes
