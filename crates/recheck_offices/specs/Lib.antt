pub mod Limits
pub mod Offices
