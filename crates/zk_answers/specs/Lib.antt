pub mod Outcomes
pub mod Fits
pub mod Forms
pub mod Reads
