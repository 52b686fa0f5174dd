pub mod Bound
pub mod Attained
pub mod Together
pub mod RowBound
pub mod RowReached
