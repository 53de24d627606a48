pub mod Starred
pub mod ShutOut
