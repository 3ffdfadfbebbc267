pub mod NameLemmas
pub mod NumberLemmas
pub mod FieldLemmas
pub mod KeyLemmas
pub mod ScriptLemmas
pub mod SpellingLaws
pub mod SuitingLaws
