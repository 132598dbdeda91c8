pub mod Filled
pub mod Refusals
pub mod Finished
pub mod Demand
