pub mod Symbols
pub mod Rankings
pub mod Standings
