pub mod Kinds
pub mod Rows
pub mod Range
pub mod Combination
pub mod Governing
pub mod Columns
