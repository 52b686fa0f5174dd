pub mod Sheet
pub mod Edits
pub mod Range
pub mod Looks
