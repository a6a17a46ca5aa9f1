pub mod Shutting
pub mod Cases
pub mod Beside
pub mod Sending
pub mod ConnectAsks
pub mod Ending
pub mod Counting
