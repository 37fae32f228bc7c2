pub mod Same
pub mod Computed
pub mod Examples
pub mod Stops
pub mod Marks
pub mod Captions
