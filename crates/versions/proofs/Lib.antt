pub mod Tested
pub mod Cuts
pub mod Numbers
pub mod Spelling
pub mod Steps
pub mod Releases
pub mod Ranks
pub mod Others
