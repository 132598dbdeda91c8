pub mod Walking
pub mod Looping
