pub mod States
pub mod Loads
pub mod Projects
pub mod Promises
pub mod Raises
