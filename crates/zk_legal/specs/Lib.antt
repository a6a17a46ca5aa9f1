pub mod Counted
pub mod Formed
pub mod Faults
pub mod Passwords
pub mod Short
pub mod Laws
