-- what the public contracts cite
pub mod Faulty
pub mod Pieces
pub mod Source
pub mod Word
-- what serves inside
pub mod HalfMade
pub mod Made
pub mod Pass
pub mod Passing
pub mod Waiting
