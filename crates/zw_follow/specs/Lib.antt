pub mod Publishing
pub mod Streams
pub mod Dials
