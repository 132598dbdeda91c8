pub mod Calls
pub mod Back
pub mod Promises
