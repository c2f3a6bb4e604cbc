pub mod Places
pub mod Kept
pub mod Gathered
pub mod Collected
pub mod Selected
pub mod Numbers
pub mod Joins
