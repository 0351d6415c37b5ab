pub mod PlanTextLaws
pub mod RestRead
