pub mod DeadSums
