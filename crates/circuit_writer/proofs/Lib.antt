pub mod Short
pub mod Written
pub mod Numerals
pub mod Recovered
pub mod Longer
