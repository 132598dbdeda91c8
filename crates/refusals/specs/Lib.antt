pub mod Numbers
pub mod Answer
