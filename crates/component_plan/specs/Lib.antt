pub mod Answer
pub mod Demand
pub mod Refusing
