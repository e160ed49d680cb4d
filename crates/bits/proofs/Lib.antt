pub mod Nan
pub mod Back
pub mod Only
