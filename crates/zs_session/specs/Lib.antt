pub mod Sessions
pub mod Answering
pub mod Connecting
pub mod Alive
pub mod Laws
