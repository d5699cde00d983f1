-- Computed cases beside the starred ones, one subject each.
pub mod OneCallCases
pub mod CallCases
pub mod DeskCases
pub mod BookCases
pub mod SheetCases
pub mod MemberCases
pub mod StepCases
