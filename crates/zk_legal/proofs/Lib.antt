pub mod NoFault
pub mod Counting
pub mod Steps
pub mod WithoutFault
pub mod Fitting
pub mod Passwords
pub mod ShortPaths
pub mod ShortUpdates
