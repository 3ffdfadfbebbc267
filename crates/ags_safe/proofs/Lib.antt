-- rows, cases and their posts
pub mod LinkLemmas
pub mod AgreementLemmas
pub mod SoundLemmas
pub mod OrderLemmas
pub mod OneStepLemmas
pub mod CoverLemmas
pub mod OneAnswerLemmas
pub mod CodeLemmas
pub mod GoingLemmas
pub mod PlainCaseLemmas
-- certificates
pub mod RegisterLemmas
pub mod StartRowLemmas
pub mod StartLemmas
pub mod StepLemmas
pub mod RunLemmas
pub mod FaultLemmas
pub mod DecisionLemmas
pub mod AcceptanceLemmas
pub mod ExistenceLemmas
pub mod PlainLemmas
