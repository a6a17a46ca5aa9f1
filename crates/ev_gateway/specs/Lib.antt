pub mod Looking
pub mod Serving
pub mod Sinks
pub mod Streaming
