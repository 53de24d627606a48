pub mod Hearing
pub mod Weighing
