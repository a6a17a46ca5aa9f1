pub mod Clients
pub mod Passing
pub mod Schedules
pub mod Turns
pub mod Stressed
