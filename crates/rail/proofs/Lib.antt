pub mod Added
pub mod Only
pub mod Spaced
