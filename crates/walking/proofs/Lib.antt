pub mod Shots
pub mod Counting
pub mod Views
pub mod Walking
