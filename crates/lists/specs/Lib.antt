pub mod Lists
pub mod Laws
pub mod Ranges
pub mod Fields
pub mod Joins
