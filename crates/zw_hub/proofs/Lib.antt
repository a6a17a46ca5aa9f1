pub mod Newest
pub mod Keeping
pub mod Growing
