pub mod Store
pub mod Ranges
pub mod Denials
pub mod Lapses
pub mod Reads
pub mod Sizes
pub mod Answers
pub mod Laws
