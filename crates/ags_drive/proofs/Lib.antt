-- what a run of a bench script is
pub mod RunLemmas
pub mod OneRunLemmas
pub mod PointLemmas
pub mod RunOfLemmas
pub mod CountLemmas
pub mod OneBenchRunLemmas
pub mod GrownLemmas
-- the run that is made
pub mod JoinLemmas
pub mod HearLemmas
pub mod StepLemmas
pub mod GiveLemmas
pub mod ShowLemmas
pub mod ScriptLemmas
pub mod DriveLemmas
