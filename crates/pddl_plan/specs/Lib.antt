pub mod Cuts
pub mod NameLists
pub mod Building
pub mod Plans
pub mod Built
pub mod StepParts
