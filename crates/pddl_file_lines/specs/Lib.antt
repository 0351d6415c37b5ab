pub mod Lines
pub mod Refusals
pub mod Contents
pub mod Made
pub mod LinkRefusals
pub mod Judgements
pub mod Inner
