-- What proofs of the crates above cite. Assumes nothing.
pub mod Cases
pub mod Causes
