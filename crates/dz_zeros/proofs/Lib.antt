pub mod Meaning
pub mod Steps
pub mod Actions
pub mod Walks
pub mod RegularZeros
pub mod Roots
pub mod ZeroSetLaws
pub mod BookZeros
