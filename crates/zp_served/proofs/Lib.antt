pub mod Carrying
pub mod Timely
pub mod Alone
pub mod Begun
