pub mod Renaming
pub mod Pages
