pub mod ComparisonLemmas
