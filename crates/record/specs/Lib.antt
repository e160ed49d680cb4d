pub mod Record
pub mod Decode
pub mod Entry
pub mod Sound
pub mod Formed
pub mod Steps
pub mod Laid
