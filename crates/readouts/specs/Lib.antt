pub mod Readouts
pub mod Coins
