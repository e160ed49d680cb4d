pub mod High
pub mod Sections
pub mod Ends
pub mod Only
pub mod Never
pub mod SoundPage
pub mod Written
pub mod WellRead
