pub mod Cuts
pub mod Lefts
pub mod Told
pub mod Brackets
pub mod Slots
pub mod Shapes
