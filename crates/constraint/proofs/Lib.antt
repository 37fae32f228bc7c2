pub mod Facts
pub mod Fixed
pub mod Limits
pub mod Impulse
