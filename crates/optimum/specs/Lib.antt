pub mod Factors
pub mod Row
