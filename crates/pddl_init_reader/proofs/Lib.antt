pub mod InitLaws
pub mod InitTurns
pub mod OneItem
