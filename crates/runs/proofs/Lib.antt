pub mod MemberLaws
pub mod Passing
