-- what the public contracts cite
pub mod Outcome
-- what serves inside
pub mod Decision
