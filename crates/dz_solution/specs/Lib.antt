pub mod Substitution
pub mod Evaluation
pub mod FunctionPoints
pub mod Solutions
