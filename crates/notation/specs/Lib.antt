pub mod Names
pub mod Numbers
pub mod Digits
pub mod Texts
pub mod Quotes
