pub mod Refusals
pub mod Lists
pub mod ReadAll
pub mod States
pub mod Overlaid
