pub mod Making
pub mod Running
