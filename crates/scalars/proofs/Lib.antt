pub mod Kept
pub mod Floors
