pub mod Events
pub mod Lives
pub mod Feeding
pub mod Followed
pub mod Showing
pub mod Alone
