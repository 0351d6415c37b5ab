pub mod LinkedTasks
pub mod TaskTables
pub mod Codes
