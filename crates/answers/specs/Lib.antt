pub mod Answers
pub mod Responds
pub mod Steps
