pub mod Copy
pub mod Same
pub mod Parts
