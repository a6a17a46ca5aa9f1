pub mod Reading
pub mod Endpoints
pub mod Turns
pub mod Theorem
pub mod Memory
pub mod Dialling
