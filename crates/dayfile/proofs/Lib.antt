pub mod Figures
pub mod Steps
pub mod Writing
pub mod Turns
