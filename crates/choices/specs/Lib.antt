pub mod Choices
pub mod Order
