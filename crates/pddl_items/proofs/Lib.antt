pub mod Fronts
pub mod TreeLists
pub mod Readers
