pub mod VerbLemmas
pub mod ScriptLemmas
pub mod SpellingLaws
pub mod SuitingLaws
