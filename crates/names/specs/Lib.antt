pub mod Labels
pub mod Cut
pub mod Chains
pub mod Names
pub mod Steps
