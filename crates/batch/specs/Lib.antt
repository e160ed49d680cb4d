pub mod Header
pub mod Line
