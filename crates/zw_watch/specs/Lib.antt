pub mod SeenPaths
pub mod Armed
pub mod Noted
pub mod Rounds
pub mod Bits
