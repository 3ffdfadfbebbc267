-- Each line has one reading.
pub mod ReadingLaws
-- What stands below.
pub mod NumberLemmas
pub mod OpeningLemmas
