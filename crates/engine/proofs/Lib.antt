pub mod Copies
pub mod Decided
pub mod Parts
pub mod Sweeps
