pub mod SayingLemmas
pub mod WalkLemmas
pub mod WorkLemmas
pub mod AnswerLemmas
pub mod RunLemmas
pub mod StatusLemmas
pub mod LoadingLemmas
