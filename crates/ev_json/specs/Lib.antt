pub mod Messages
pub mod Asks
pub mod Answers
pub mod Bodies
pub mod Breaks
pub mod Ranges
pub mod Spelled
