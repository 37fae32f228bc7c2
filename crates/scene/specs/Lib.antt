pub mod Scene
pub mod Calls
pub mod Plain
pub mod Chain
pub mod Claims
