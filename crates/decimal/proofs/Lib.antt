pub mod Operations
pub mod Powers
pub mod Laws
pub mod Only
pub mod Cases
pub mod Small
