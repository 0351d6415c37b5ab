pub mod Depths
pub mod Views
