pub mod Little
pub mod Only
