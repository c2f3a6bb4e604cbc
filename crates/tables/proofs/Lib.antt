pub mod Places
pub mod Orders
pub mod Kept
