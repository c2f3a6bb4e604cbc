pub mod Numerals
pub mod Counting
pub mod Quoting
pub mod Naming
pub mod Faults
