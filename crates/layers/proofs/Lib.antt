pub mod Lookups
pub mod Admitted
pub mod Layered
pub mod Joined
