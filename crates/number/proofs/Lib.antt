pub mod Places
pub mod Numerals
pub mod Limits
pub mod Depth
pub mod Only
pub mod Cases
pub mod Significant
pub mod Within
