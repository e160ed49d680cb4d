pub mod First
pub mod Refusal
pub mod Worst
