pub mod Answering
pub mod Restoring
