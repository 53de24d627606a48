pub mod Product
pub mod Parts
