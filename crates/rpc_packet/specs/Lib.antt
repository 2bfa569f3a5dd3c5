pub mod Bodies
pub mod Packets
pub mod Outcomes
pub mod Prepared
pub mod FrameParts
