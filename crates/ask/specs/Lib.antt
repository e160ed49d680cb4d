pub mod Ask
pub mod Steps
