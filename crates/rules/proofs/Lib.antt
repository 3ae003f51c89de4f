pub mod Highest
pub mod Tokens
