pub mod DeltaParts
pub mod LeaderOperators
pub mod PairLists
pub mod OverDeltas
