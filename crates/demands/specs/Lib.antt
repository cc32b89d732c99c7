pub mod Reads
pub mod Rewrites
pub mod Demand1
pub mod Demand2
pub mod Demand3
pub mod RowsNeeded
pub mod RuleOfThumb
pub mod Editions
