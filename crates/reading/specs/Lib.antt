pub mod Answer
pub mod Parts
