pub mod Turned
pub mod Pair
