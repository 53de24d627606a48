pub mod Tables
pub mod Picking
pub mod Halves
