pub mod Links
pub mod History
pub mod Terms
pub mod Watching
