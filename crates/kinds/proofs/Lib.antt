pub mod Table
pub mod Cells
pub mod Only
