pub mod Clocks
pub mod Faults
pub mod Nets
pub mod Refilling
pub mod Silence
pub mod Waits
