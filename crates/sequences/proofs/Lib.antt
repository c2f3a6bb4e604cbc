pub mod Typed
pub mod Rows
