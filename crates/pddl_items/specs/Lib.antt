pub mod Items
pub mod ItemTrees
pub mod Inner
