pub mod Exchange
pub mod Counts
pub mod Shifts
pub mod Pass
pub mod InWords
pub mod Passing
pub mod Single
pub mod Tied
