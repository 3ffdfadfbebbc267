-- What comes of the cases of an accepted certificate.
pub mod AcceptedRowsLemmas
-- The rows that are found.
pub mod FoundLemmas
mod CoverageLemmas
mod CountedLemmas
mod FindingLemmas
mod RowsLemmas
mod StartLemmas
-- That each work has an answer. Behind the laws of `answer_laws` are
--     each_case_has_an_answer           some_posts of PostsLemmas
--     each_row_has_a_code               some_code of CodeLemmas
--     each_certificate_has_a_verdict    some_verdict of AnswerLemmas
--     each_certificate_is_answered      all_answered of AnsweredLemmas
--     refusal_tells_the_first_fault     fault_of_refusal and refusal_of_first of FirstFaultLemmas
pub mod PostsLemmas
pub mod CodeLemmas
pub mod AnswerLemmas
pub mod AnsweredLemmas
pub mod FirstFaultLemmas
-- Inclusion of one value in another is decided.
pub mod ToldLemmas
-- What stands below
mod RangeLemmas
mod OperationLemmas
mod UnfailingLemmas
