pub mod Ending
pub mod Looking
pub mod Reading
pub mod Streaming
