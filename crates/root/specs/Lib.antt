pub mod Bits
pub mod Root
pub mod Function
pub mod Promise
pub mod Steps
