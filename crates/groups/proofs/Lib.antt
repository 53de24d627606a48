pub mod Single
pub mod Equal
