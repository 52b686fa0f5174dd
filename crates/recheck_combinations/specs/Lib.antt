pub mod Acting
pub mod Components
