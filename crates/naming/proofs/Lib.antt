pub mod Reading
pub mod Marks
pub mod Naming
pub mod Acting
pub mod BestSets
