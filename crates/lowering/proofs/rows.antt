-- The rows of the rules.
pub mod Labels
pub mod Bytes
pub mod Formed
pub mod Tied
pub mod Filling
pub mod Lines
