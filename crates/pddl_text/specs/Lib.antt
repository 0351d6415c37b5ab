pub mod Spans
pub mod StandsFor
pub mod Lists
pub mod Texts
pub mod Pieces
pub mod Positions
pub mod LineStarts
pub mod Inner
