-- what the public contracts cite
pub mod Timing
pub mod Over
pub mod Timed
pub mod TimedText
pub mod Spent
-- what serves inside
pub mod Asking
