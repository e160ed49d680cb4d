-- The slots of a drawing: where they stand, what they start at, how they are filled, looked up and read out.
pub mod Components
pub mod Values
pub mod Fields
pub mod Looked
pub mod Guesses
pub mod Steps
pub mod Pushes
pub mod Names
