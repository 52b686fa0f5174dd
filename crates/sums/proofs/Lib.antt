pub mod Arrays
pub mod Gathered
pub mod Held
pub mod Totals
