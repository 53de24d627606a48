pub mod Gates
pub mod Tableau
pub mod Measurement
pub mod Generators
pub mod Run
pub mod Named
pub mod Parts
