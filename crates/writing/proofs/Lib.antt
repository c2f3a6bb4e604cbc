pub mod Areas
pub mod Counts
pub mod Joined
pub mod Naturals
pub mod Bounds
