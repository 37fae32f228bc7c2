-- The claims proved (`Isqrt`, `Nearest`, `Special`), two roots by computation (`Examples`), the lemmas of those proofs (`Squares`, `Units`,
-- `Rounding`), and what the functions' proofs cite, on plain values. Assumes nothing.
pub mod Isqrt
pub mod Nearest
pub mod Special
pub mod Examples
mod Squares
pub mod Units
pub mod Rounding
pub mod Nans
mod Unpacking
mod Scaled
mod Patterns
mod RootBits
mod SpecialBits
