pub mod Numbers
pub mod Filled
pub mod Padded
pub mod Patches
pub mod Words
pub mod Bytes
pub mod Back
