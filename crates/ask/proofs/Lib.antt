pub mod Cases
pub mod Only
pub mod Examples
