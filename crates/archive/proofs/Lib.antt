pub mod Copying
pub mod Alike
pub mod Groups
pub mod OneAnswer
pub mod Room
