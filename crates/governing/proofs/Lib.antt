pub mod Methods
pub mod Peaks
pub mod Ranges
