pub mod BuiltSteps
pub mod PlanSteps
pub mod PlanLaws
pub mod FaultPlaces
pub mod StepsRead
