-- What the words of a case are. Definitions only. Assumes nothing.
pub mod Words
