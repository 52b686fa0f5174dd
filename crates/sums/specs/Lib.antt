pub mod Directions
pub mod Sums
