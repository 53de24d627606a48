pub mod Digits
pub mod Putting
