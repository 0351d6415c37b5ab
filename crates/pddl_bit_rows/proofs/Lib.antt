pub mod LaneWords
pub mod RowBits
pub mod SharedBits
