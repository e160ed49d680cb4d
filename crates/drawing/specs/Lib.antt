pub mod Needs
pub mod Faults
pub mod Check
pub mod Numbers
pub mod Judged
pub mod Ranks
