pub mod Cuts
pub mod Releases
pub mod Values
pub mod Told
pub mod VersionLemmas
