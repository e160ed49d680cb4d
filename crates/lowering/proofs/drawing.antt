-- What a drawing that passes the check is like.
pub mod Counts
pub mod Fine
