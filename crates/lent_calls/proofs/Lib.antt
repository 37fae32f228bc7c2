pub mod OneCall
pub mod Turns
