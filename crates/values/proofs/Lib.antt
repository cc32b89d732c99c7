pub mod FloatBits
pub mod HalfExamples
pub mod Halves
pub mod Marked
pub mod ScalarCases
pub mod Signs
pub mod SingleBits
