pub mod Depths
pub mod Views
pub mod Grouped
