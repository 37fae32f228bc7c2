pub mod Stops
