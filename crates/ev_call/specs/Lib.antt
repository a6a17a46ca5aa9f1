pub mod Asks
pub mod Fitting
pub mod Calls
pub mod Honest
pub mod Addresses
