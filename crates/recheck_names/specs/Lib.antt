pub mod Names
pub mod Results
