-- what the public contracts cite
pub mod Port
pub mod Time
pub mod Machine
pub mod State
pub mod Change
pub mod Effect
pub mod Step
pub mod OrderTime
pub mod Run
pub mod Exact
