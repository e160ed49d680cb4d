pub mod Formed
pub mod Row
