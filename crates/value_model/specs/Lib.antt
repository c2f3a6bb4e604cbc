pub mod Model
pub mod Rows
pub mod Sizes
pub mod Order
