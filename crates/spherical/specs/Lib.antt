pub mod Spherical
pub mod Steps
pub mod Claims
