pub mod Calling
pub mod Listing
pub mod Reaping
pub mod Turning
pub mod Working
