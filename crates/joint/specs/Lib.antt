pub mod Index
pub mod Prepare
pub mod Stage
pub mod Store
pub mod Claims
