pub mod Series
pub mod Examples
pub mod SeriesReports
pub mod Writing
pub mod SeriesStops
pub mod SeriesEnds
