pub mod Held
pub mod Tags
pub mod Readings
pub mod Offices
