pub mod Grammar
pub mod Records
pub mod Laws
pub mod Examples
