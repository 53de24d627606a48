pub mod Bytes
pub mod Runs
pub mod Tally
pub mod Demand3
pub mod KindsMean
