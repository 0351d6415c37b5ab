pub mod TermLaws
pub mod TypedListLaws
pub mod HeadLaws
pub mod FormulaLaws
pub mod Turns
pub mod Fills
pub mod TypedTurns
pub mod TurnsOfFormulas
