pub mod Prefixes
pub mod Dues
pub mod Depths
pub mod Built
