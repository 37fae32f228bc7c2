pub mod StopCode
pub mod Claims
