pub mod StandsForPlan
