pub mod Cases
pub mod Complement
pub mod Numbers
pub mod Stores
