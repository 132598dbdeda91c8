pub mod Bits
pub mod Active
