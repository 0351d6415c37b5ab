pub mod Results
pub mod Found
