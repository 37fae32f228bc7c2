pub mod Facts
pub mod Marks
pub mod Point
