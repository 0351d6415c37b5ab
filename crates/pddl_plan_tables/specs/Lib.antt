pub mod ChangeCosts
pub mod ActionChanges
pub mod StepTables
pub mod PlanTables
