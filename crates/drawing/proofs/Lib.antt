pub mod Walk
pub mod Ends
pub mod Names
pub mod Following
pub mod Joins
