pub mod Places
pub mod Fillings
pub mod Sheets
pub mod Views
pub mod Listed
