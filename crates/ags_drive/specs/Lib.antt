-- what the public contracts cite: what a run of a bench script is
pub mod Act
pub mod Bench
pub mod Shown
pub mod Doing
pub mod Played
pub mod BenchRun
pub mod Counted
pub mod Cut
pub mod Driven
-- the call that makes one
pub mod Drive
-- what serves inside
pub mod Standing
pub mod Making
pub mod Listening
pub mod Starting
