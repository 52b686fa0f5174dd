pub mod Left
pub mod Placed
pub mod Joins
pub mod Counts
