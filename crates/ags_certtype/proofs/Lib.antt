pub mod CheckLemmas
mod IndexLemmas
pub mod NumberLemmas
pub mod EditLemmas
