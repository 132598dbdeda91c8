pub mod Passes
pub mod Optimizing
pub mod Claims
pub mod Further
pub mod Examples
