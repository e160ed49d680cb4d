pub mod Words
pub mod Rail
