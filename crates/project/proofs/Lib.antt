pub mod Formed
pub mod Starting
pub mod Changing
pub mod Insides
pub mod Lists
pub mod Reading
pub mod Lowering
pub mod Fitting
