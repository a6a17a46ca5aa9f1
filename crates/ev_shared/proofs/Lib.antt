pub mod Carried
pub mod Replaying
pub mod Lapsing
pub mod Sweeping
pub mod Shown
