pub mod Probability
pub mod ByRuns
pub mod Parts
