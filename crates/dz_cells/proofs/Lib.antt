pub mod RowMonomials
pub mod Merged
pub mod Finished
pub mod Contributed
