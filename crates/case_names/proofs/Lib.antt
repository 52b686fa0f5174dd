pub mod Keeping
pub mod Lining
pub mod Progress
pub mod Written
