-- The ids of what a label names.
pub mod Tested
pub mod Named
pub mod Firsts
