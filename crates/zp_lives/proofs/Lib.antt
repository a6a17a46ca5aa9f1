pub mod Events
pub mod Keeping
pub mod Entries
pub mod Executing
pub mod Telling
pub mod Stepping
pub mod Living
pub mod Followed
