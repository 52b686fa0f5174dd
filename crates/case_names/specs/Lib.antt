pub mod Text
pub mod Table
pub mod Reading
pub mod Report
