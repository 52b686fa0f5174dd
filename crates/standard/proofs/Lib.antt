pub mod Table
pub mod EmptyTank
pub mod Facts
