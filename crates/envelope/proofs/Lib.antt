pub mod Components
pub mod Rows
pub mod Spans
pub mod Maximum
pub mod Utilisation
pub mod Limits
pub mod Patterns
