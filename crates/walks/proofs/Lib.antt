pub mod Fillings
pub mod Telling
pub mod Writing
pub mod Noting
pub mod Walking
pub mod Starting
pub mod Entering
pub mod Listing
