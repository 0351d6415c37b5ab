pub mod Formats
pub mod Checks
