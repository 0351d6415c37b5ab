pub mod NumberingLaws
pub mod LeastShared
pub mod RowLists
