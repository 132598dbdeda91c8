pub mod Reply
pub mod Stored
pub mod Optimized
