pub mod Governed
pub mod Named
pub mod Promised
