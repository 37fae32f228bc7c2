pub mod Model
pub mod Body
pub mod Base
pub mod Door
pub mod Hip
pub mod Strut
