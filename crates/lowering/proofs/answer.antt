-- What lowering answers, and what is lent after it.
pub mod Lacking
pub mod Ends
pub mod Joining
pub mod Handed
