pub mod MemberLaws
pub mod JumpLaws
