pub mod Meanings
pub mod Held
pub mod Going
pub mod OnKept
pub mod Guessing
pub mod Left
pub mod Handling
