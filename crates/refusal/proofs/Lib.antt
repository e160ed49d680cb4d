pub mod Says
pub mod Search
pub mod Right
pub mod Told
pub mod Good
pub mod Once
pub mod Alike
pub mod ByPlaces
