pub mod Rows
pub mod Revolute
pub mod Spherical
pub mod Weld
pub mod RowCount
pub mod Claims
