pub mod Slots
pub mod Refusals
pub mod Push
pub mod Look
pub mod Run
pub mod Parts
pub mod Claims
pub mod Steps
