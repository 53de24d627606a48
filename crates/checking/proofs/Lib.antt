pub mod Counting
pub mod Meant
pub mod OneAnswer
