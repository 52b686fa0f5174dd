pub mod Passed
pub mod Promises
