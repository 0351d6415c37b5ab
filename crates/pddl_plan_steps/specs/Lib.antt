pub mod NumberedSteps
pub mod PlanSteps
pub mod AcceptedPlans
