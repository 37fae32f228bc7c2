pub mod Outcomes
pub mod Stored
pub mod OneCall
pub mod Proved
pub mod Indices
pub mod Planned
