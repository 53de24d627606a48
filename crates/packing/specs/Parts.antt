pub mod Changes
pub mod Planes
