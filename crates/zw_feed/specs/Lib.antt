pub mod Following
pub mod Gathering
