pub mod Reports
pub mod Reductions
pub mod Preparations
pub mod Asked
pub mod Laws
pub mod Writing
