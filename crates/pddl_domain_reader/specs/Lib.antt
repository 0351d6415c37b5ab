pub mod DomainTexts
pub mod Inner
