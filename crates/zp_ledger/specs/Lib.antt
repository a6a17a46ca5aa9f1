pub mod Entering
pub mod Writing
pub mod Grouping
