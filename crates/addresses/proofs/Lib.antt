pub mod SlotCases
