pub mod Record
pub mod Kinds
pub mod Pass
pub mod Sound
