pub mod PartLaws
pub mod DomainTurns
pub mod DomainTextLaws
mod Results
