pub mod Fields
pub mod Going
