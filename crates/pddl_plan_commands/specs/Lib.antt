pub mod Printings
pub mod PlanChecks
pub mod Runs
pub mod Inner
