pub mod Cutting
pub mod Giving
pub mod Outcomes
pub mod Putting
