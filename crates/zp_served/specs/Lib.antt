pub mod Honest
pub mod Served
pub mod Begun
