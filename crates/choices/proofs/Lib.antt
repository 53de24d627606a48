pub mod Products
pub mod Order
pub mod Dependent
