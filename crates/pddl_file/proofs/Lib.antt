pub mod KeywordLaws
pub mod MarkLaws
pub mod FileTexts
pub mod WordTurns
pub mod Begun
pub mod SectionTurns
pub mod FaultPlaces
