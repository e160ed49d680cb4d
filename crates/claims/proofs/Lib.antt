pub mod Marked
pub mod PageRefused
pub mod PageToRows
