pub mod Laying
pub mod Carrying
pub mod Leading
pub mod Reading
pub mod Deciding
pub mod Laws
