pub mod Keywords
pub mod Flags
pub mod Marks
pub mod Faults
pub mod Places
pub mod Inner
