pub mod Forms
pub mod Section
pub mod Steps
