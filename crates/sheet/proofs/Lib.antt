pub mod Refusals
pub mod Access
pub mod Kept
pub mod Stations
pub mod Edits
pub mod Promised
