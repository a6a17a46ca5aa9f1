pub mod Drawing
pub mod Sizes
pub mod Spelling
pub mod Telling
