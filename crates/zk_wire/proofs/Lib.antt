pub mod Pieces
pub mod Loop
pub mod Puts
