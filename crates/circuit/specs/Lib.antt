pub mod Lines
pub mod Text
pub mod Parts
