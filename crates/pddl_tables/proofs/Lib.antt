pub mod LookedUp
pub mod PriceTables
pub mod PricedCalls
