pub mod TimedLemmas
