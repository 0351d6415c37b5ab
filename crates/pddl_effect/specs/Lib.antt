pub mod StaticNames
pub mod Effects
