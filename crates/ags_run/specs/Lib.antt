-- what the public contracts cite
pub mod Play
pub mod ErrorText
-- what serves inside
pub mod Hearing
pub mod Standing
pub mod Acted
pub mod Making
pub mod Playing
