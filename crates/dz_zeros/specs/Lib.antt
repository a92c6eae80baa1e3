pub mod Solves
pub mod Laws
pub mod Runs
