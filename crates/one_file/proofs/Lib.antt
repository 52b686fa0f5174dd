pub mod Unchanged
pub mod Bytes
pub mod Gone
pub mod OneFile
