pub mod Numbers
pub mod Most
pub mod Answers
pub mod OneAnswer
