pub mod Means
pub mod Entries
