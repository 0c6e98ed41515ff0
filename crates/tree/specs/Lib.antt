pub mod Grammar
pub mod Escapes
pub mod Filenames
pub mod Layouts
pub mod Files
pub mod Laws
pub mod Views
pub mod Examples
