pub mod Products
pub mod Served
