pub mod Settling
pub mod Whole
