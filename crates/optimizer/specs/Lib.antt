pub mod Working
pub mod Answer
pub mod Laws
