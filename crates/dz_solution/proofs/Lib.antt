pub mod Steps
pub mod CanonicalValues
pub mod Substitutions
pub mod FunctionValues
pub mod FunctionPointProofs
pub mod FunctionsInBook
pub mod Members
