-- What public clauses cite.
pub mod Answer
pub mod Answered
pub mod Asked
pub mod Cases
pub mod Decisions
pub mod Filed
pub mod Fit
pub mod FitHistory
pub mod Items
pub mod Marks
pub mod Once
pub mod Plain
pub mod Preparing
pub mod Recording
pub mod Scratches
pub mod Told
pub mod Value
-- Laws of these, with their proofs.
pub mod AnswerLaws
pub mod EachAnswer
pub mod FaultLaws
pub mod FiledLaws
pub mod FitHistoryLaws
pub mod FitLaws
pub mod ListFitLaws
pub mod OnceLaws
pub mod PreparingLaws
pub mod ResourceLaws
pub mod RoomAsked
pub mod RoomLaws
pub mod ShortLaws
pub mod SizeLaws
-- Steps of proofs, and private clauses.
pub mod Numbers
pub mod Steps
pub mod WireMarks
pub mod Worked
