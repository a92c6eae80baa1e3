pub mod Blocks
pub mod Lists
pub mod Marks
pub mod Piles
