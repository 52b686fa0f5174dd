pub mod Tests
pub mod Signs
pub mod Machine
pub mod Sums
pub mod Masks
pub mod Linear
pub mod Walks
pub mod Folds
