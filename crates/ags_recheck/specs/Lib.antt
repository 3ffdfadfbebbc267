-- what the public contracts cite
pub mod Edited
pub mod Bound
pub mod Told
pub mod ToldText
-- what serves inside
pub mod Locations
pub mod Joined
pub mod Kept
