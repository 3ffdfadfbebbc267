pub mod ImageLaws
pub mod ColumnLemmas
pub mod CutLemmas
pub mod MeaningLemmas
pub mod ReadLemmas
pub mod TapeLemmas
pub mod TapeMeaningLemmas
pub mod TapeOrderLemmas
