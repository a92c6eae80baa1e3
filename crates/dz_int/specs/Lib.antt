pub mod Numbers
pub mod Fractions
pub mod Euclid
