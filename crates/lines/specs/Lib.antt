pub mod Drawn
pub mod Lines
