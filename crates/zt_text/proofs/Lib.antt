pub mod Digits
pub mod WordCounts
pub mod HexDigits
pub mod PieceLaws
pub mod WrittenWords
pub mod ReadWords
pub mod LineReading
pub mod TranscriptLaws
