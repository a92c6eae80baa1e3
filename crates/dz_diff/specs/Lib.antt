pub mod Tests
pub mod Operators
pub mod Operations
pub mod State
pub mod Over
pub mod States
pub mod Laws
