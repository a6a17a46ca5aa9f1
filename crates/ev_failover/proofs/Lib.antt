pub mod Turning
pub mod Outcome
pub mod Storing
pub mod Placing
pub mod Repeating
