pub mod View
pub mod Parts
