pub mod Attachments
pub mod Codes
pub mod Commits
pub mod Fits
pub mod Pasts
pub mod Shown
