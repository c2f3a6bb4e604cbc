pub mod Forms
pub mod Settled
pub mod Faults
pub mod Reads
pub mod Kinds
pub mod Readers
pub mod Nexts
pub mod Gathered
