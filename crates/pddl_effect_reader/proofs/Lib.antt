pub mod AmountLaws
pub mod EffectLaws
pub mod IncreaseTestLaws
pub mod IncreaseTurns
pub mod AmountTurns
pub mod EffectTurns
