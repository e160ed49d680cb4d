pub mod Determined
pub mod Floats
pub mod Lists
pub mod Pieces
pub mod UpTo
