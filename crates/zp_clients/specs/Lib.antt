pub mod Draws
pub mod Wishes
pub mod Sent
pub mod Summaries
