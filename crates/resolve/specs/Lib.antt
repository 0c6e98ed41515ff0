pub mod Signs
pub mod Messages
