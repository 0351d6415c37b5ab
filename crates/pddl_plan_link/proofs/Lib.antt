pub mod FittingParameters
pub mod CostWalks
pub mod CheckedSteps
pub mod PlanSteps
