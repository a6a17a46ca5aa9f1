pub mod Words
pub mod Lines
pub mod Transcripts
pub mod Outcomes
pub mod Readable
pub mod Laws
