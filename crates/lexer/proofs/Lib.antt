pub mod Coded
pub mod Pieced
pub mod Spelled
pub mod Unbracketed
pub mod Shaped
