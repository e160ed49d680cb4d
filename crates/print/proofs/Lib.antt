pub mod Back
pub mod Cases
pub mod Laws
pub mod Only
