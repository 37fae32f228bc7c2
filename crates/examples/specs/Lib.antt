pub mod Joints
pub mod Examples
pub mod Stops
pub mod Marks
pub mod Captions
