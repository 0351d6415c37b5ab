pub mod Atoms
pub mod Overlaps
pub mod Stores
pub mod Refusals
pub mod Onward
pub mod ByMoment
pub mod Made
