pub mod Tags
pub mod Run
