pub mod Held
pub mod Marked
