pub mod Laws
pub mod Numbers
mod Arms
