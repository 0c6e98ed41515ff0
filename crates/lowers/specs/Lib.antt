pub mod Ceilings
pub mod Learned
pub mod Spreads
pub mod Lowered
