pub mod Points
pub mod PointValues
