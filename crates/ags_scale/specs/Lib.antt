-- what the public contracts cite
pub mod Change
pub mod Tagged
pub mod RowChange
pub mod Tagging
pub mod Accepted
pub mod Scaled
pub mod ScaledText
-- what serves inside
pub mod Asking
pub mod Telling
