pub mod Header
pub mod PackedCases
pub mod TableCases
