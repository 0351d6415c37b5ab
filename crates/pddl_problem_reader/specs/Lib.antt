pub mod ProblemTexts
pub mod Inner
