pub mod Calls
pub mod Sweep
