pub mod Growing
pub mod Reading
pub mod Ending
pub mod Taking
pub mod Dialling
