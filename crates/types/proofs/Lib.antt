pub mod ByKind
pub mod Of
pub mod Shared
pub mod Shown
pub mod Sorted
