pub mod Gates
pub mod Steps
pub mod Pairs
pub mod Letters
