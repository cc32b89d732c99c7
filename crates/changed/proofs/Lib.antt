pub mod Fixed
pub mod Follows
pub mod SameRows
pub mod SameAnswers
