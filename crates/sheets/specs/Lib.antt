pub mod Lines
pub mod Targets
pub mod Numbers
pub mod Sheets
pub mod Places
pub mod Keeping
