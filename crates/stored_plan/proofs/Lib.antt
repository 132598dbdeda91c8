pub mod Touching
pub mod Accepting
pub mod RoundTrip
pub mod Plans
pub mod Cases
