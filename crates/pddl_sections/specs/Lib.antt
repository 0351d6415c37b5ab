pub mod Sections
pub mod Files
pub mod Openings
pub mod Inner
