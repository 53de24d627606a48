pub mod Placing
pub mod Bytes
pub mod Texts
pub mod Parts
pub mod Packed
