pub mod FoundLemmas
pub mod SplitLemmas
pub mod SumLemmas
pub mod SymbolLemmas
