pub mod Positions
pub mod Names
pub mod Order
pub mod Readings
pub mod Digits
pub mod Walk
pub mod Numbered
