pub mod Reading
pub mod Dialling
pub mod Local
