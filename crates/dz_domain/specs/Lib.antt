pub mod Point
pub mod Adjoin
pub mod Series
pub mod CoefficientLists
pub mod AdjoinLaws
