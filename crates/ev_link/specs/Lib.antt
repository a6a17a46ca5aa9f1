pub mod Asking
pub mod Dialling
pub mod Reaching
