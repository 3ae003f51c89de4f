pub mod Framing
pub mod Packet
pub mod Records
pub mod Taking
pub mod Playing
pub mod FramingLemmas
