pub mod Range
pub mod Components
pub mod Envelope
pub mod Directions
pub mod Places
pub mod Signs
