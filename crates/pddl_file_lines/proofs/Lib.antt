pub mod FaultLines
pub mod OneRefusal
pub mod OneAnswer
pub mod Made
pub mod Left
pub mod PlanFiles
