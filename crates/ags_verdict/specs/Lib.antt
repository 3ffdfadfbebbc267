-- what the public contracts cite
pub mod InOrder
pub mod RowCase
pub mod Fault
pub mod Verdict
pub mod Flat
pub mod Locality
pub mod VerdictText
pub mod Walk
pub mod Counting
pub mod CaseText
