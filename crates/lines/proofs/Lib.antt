pub mod Examples
pub mod Only
pub mod RowBack
pub mod Spaced
