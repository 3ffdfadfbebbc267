-- what the public contracts cite
pub mod Length
pub mod Kept
pub mod Pieces
pub mod Version
-- what serves inside
pub mod Gathered
pub mod Gathering
pub mod Sound
pub mod Before
pub mod LimitTable
pub mod LineTaken
pub mod NextState
pub mod OneMeaning
