pub mod Owners
pub mod Holds
pub mod Rows
pub mod Mains
pub mod Views
pub mod Outcomes
