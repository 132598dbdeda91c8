pub mod Stored
pub mod Reading
pub mod Loading
pub mod Laws
