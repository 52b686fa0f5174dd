pub mod Scaled
pub mod Lines
pub mod Read
pub mod Exchange
