pub mod Ending
pub mod Wanting
pub mod Closing
pub mod Reaping
