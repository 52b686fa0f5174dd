pub mod Walk
pub mod Without
