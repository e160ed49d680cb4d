pub mod Page
pub mod Steps
