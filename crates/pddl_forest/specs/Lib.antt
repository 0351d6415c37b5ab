pub mod Forests
pub mod Spans
pub mod Rounds
pub mod Inner
