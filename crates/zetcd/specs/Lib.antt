pub mod Arguments
pub mod Stopping
