pub mod Draws
pub mod Sample
pub mod Equations
pub mod Ranking
pub mod System
pub mod Summary
