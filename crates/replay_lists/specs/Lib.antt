pub mod Head
pub mod Vector
