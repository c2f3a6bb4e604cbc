pub mod Named
pub mod Pieces
pub mod Placed
