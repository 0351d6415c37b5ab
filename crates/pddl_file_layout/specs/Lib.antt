pub mod FormulaValues
pub mod FormulaTrees
pub mod DomainLayout
pub mod ProblemLayout
pub mod Inner
