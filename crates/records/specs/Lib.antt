pub mod Body
pub mod Base
pub mod Revolute
pub mod Spherical
pub mod Weld
pub mod Joint
pub mod Refusal
