pub mod OneOutcome
pub mod Good
pub mod OneCheck
