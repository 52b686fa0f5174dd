pub mod Words
pub mod Runs
pub mod Lengths
pub mod Appending
