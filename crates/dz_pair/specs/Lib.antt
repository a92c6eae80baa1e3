pub mod Pair
pub mod Deltas
pub mod Crossings
