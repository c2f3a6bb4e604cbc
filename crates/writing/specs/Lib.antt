pub mod Displays
pub mod Writing
pub mod Sinks
