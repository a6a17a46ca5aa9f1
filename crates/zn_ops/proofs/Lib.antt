mod SingleRequests
pub mod SessionTests
mod Planning
pub mod Unwatched
