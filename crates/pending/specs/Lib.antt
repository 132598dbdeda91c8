pub mod Operation
pub mod Form
pub mod Examples
