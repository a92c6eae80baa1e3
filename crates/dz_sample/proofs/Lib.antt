pub mod Powers
pub mod Steps
pub mod Ranges
pub mod Fitting
pub mod Made
pub mod Lengths
pub mod Systems
pub mod EquationLists
