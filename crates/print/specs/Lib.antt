pub mod Printed
pub mod Parts
