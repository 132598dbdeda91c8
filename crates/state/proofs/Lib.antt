pub mod Numbers
pub mod Gathers
