-- what the public contracts cite
pub mod LowBits
pub mod WordSet
pub mod Domain
pub mod Hull
pub mod Candidates
pub mod Range
pub mod SetOf
pub mod Value
pub mod ValueText
-- what serves inside
pub mod WordList
pub mod Corners
pub mod Gathering
pub mod Inclusion
pub mod Ranged
pub mod ListLaws
pub mod MeaningLaws
