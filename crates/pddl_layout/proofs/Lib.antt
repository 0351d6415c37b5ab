mod PlanLines
pub mod Printed
pub mod Digits
pub mod PlanPieces
