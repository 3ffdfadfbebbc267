mod OrderLemmas
mod LocationsLemmas
mod NotingLemmas
mod RowLemmas
mod EditLemmas
mod KeepingLemmas
mod CountLemmas
mod StepLemmas
mod StartLemmas
mod BookLemmas
mod BoundLemmas
mod LawLemmas
-- What is told of edits.
pub mod TellingLemmas
pub mod StandingLemmas
