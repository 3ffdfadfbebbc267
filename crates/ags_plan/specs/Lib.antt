-- what the public contracts cite
pub mod Plan
pub mod Walk
pub mod Answer
pub mod Outcome
pub mod Lawful
pub mod Loading
pub mod Saying
