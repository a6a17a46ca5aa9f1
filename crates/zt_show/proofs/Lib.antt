pub mod Framings
pub mod Passing
pub mod Stopping
pub mod OneText
pub mod Taking
