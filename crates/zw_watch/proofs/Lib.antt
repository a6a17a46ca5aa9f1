pub mod SetWatches
pub mod Undoing
pub mod Counting
pub mod Hearing
