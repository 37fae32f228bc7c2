-- What `sqrt` computes (`Sqrt`), what is claimed of that (`Claims`, over `Nearest`), and the words of the contracts of the functions it is made
-- of (`Steps`).
pub mod Sqrt
pub mod Nearest
pub mod Claims
pub mod Steps
