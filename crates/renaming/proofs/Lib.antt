pub mod Records
pub mod Names
pub mod Pages
pub mod Examples
pub mod Exchanged
