pub mod Ignored
pub mod Left
pub mod Refused
pub mod Silent
pub mod Stays
pub mod Unmet
