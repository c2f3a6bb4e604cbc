pub mod Model
pub mod Types
pub mod Texts
