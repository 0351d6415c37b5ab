pub mod AtomOrder
pub mod SortedKeys
