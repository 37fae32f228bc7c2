pub mod Facts
pub mod Marks
