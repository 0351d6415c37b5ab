pub mod Printing
pub mod PlanLayout
pub mod Inner
