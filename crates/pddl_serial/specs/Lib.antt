pub mod Orders
pub mod Cuts
pub mod Replays
pub mod Inner
