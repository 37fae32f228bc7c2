pub mod Revolute
pub mod Claims
