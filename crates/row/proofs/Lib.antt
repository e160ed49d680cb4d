pub mod Back
pub mod Examples
pub mod Only
pub mod Rows
