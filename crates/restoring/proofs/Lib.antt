pub mod Framing
pub mod Stages
pub mod RoundTrip
