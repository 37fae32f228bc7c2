pub mod Direct
pub mod Steps
pub mod Claims
