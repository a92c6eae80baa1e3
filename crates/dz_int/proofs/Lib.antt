pub mod Coprime
pub mod Contents
pub mod Signs
pub mod Cross
pub mod Reduced
pub mod Sums
pub mod Unique
