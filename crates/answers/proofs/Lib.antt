pub mod Drawings
pub mod Joined
pub mod Only
pub mod Page
pub mod Records
pub mod Room
pub mod Slots
pub mod Sent
