pub mod Fill
pub mod Groups
pub mod Parts
pub mod Lengths
