-- What holds of the stages (`Facts`), and what the functions' proofs cite. Assumes nothing.
pub mod Facts
pub mod Marks
mod One
mod Others
