pub mod Alike
pub mod SameAnswers
