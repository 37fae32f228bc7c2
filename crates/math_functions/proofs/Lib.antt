-- Facts of the leaves (`Facts`), their marks (`Marks`), which numbers the constants are (`Constants`), and what the functions' proofs cite, on plain values.
-- Assumes nothing.
pub mod Constants
pub mod Facts
pub mod Marks
mod Roots
