pub mod Whole
pub mod Following
