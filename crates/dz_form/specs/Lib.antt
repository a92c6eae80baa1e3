pub mod Values
pub mod Texts
pub mod Steps
pub mod Writing
pub mod Reading
pub mod PolynomialReading
pub mod Limits
