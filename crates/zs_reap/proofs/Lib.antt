pub mod Deciding
pub mod FirstLook
pub mod Waiting
