pub mod Shown
pub mod FrameLines
pub mod FieldWords
pub mod Showing
