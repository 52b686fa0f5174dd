pub mod Due
pub mod Readings
pub mod Demands
