pub mod Jobs
pub mod Memory
pub mod Nets
