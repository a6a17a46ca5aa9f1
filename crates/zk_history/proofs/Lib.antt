pub mod SessionLaws
pub mod AttachmentLaws
pub mod Counts
pub mod Fitting
pub mod Marks
pub mod Looking
pub mod Updates
