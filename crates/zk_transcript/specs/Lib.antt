pub mod History
pub mod Legal
pub mod Walks
pub mod Conversations
pub mod Laws
