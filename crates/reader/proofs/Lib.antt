pub mod MessageCases
