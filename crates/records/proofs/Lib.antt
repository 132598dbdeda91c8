pub mod Words
pub mod Steps
pub mod Floats
pub mod Pairs
pub mod Laws
pub mod Cases
