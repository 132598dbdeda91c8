pub mod Arrays
pub mod Masks
pub mod Sources
