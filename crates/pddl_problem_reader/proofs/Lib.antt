pub mod PartLaws
mod SlotLaws
mod InitTexts
mod ObjectTexts
mod OnePass
pub mod ProblemTexts
mod ItemTurns
mod Results
