pub mod Deciding
pub mod Found
pub mod Replies
pub mod Wanting
pub mod SeenPaths
pub mod Places
