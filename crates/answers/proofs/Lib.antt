pub mod First
pub mod Known
pub mod Writing
pub mod Answered
pub mod Numbered
pub mod Accepting
