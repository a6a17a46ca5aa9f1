pub mod Shown
pub mod Passing
pub mod Created
