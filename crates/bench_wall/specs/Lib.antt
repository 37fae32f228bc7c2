pub mod Arguments
pub mod Sum
pub mod Wall
