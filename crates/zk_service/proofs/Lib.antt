pub mod Children
pub mod Owned
pub mod SessionMaps
pub mod SoundTrees
pub mod SoundEffects
pub mod SoundSessions
pub mod ReplySizes
pub mod PlainReplies
