pub mod Copies
pub mod Found
pub mod Idle
pub mod Keys
pub mod Moves
pub mod Steps
pub mod Tokens
pub mod Walks
