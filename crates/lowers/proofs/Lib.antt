pub mod Looking
pub mod Offering
pub mod Edging
pub mod Asking
pub mod Spreading
pub mod Keeping
pub mod Kept
pub mod Ending
