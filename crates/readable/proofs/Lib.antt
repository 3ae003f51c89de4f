pub mod Cuts
pub mod HexRead
pub mod Once
pub mod OneLine
pub mod Padding
pub mod Places
pub mod Spells
pub mod TextTells
