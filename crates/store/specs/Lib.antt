pub mod Storing
pub mod Restoring
