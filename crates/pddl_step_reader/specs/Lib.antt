pub mod Places
pub mod PlanFaults
pub mod PlanTexts
pub mod Inner
