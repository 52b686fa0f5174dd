pub mod Sums
pub mod Sets
