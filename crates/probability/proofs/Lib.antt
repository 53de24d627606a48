pub mod Characters
pub mod Telling
pub mod FromWalk
pub mod OneAnswer
pub mod ByRuns
