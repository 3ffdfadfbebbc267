-- what the contracts above cite
pub mod Files
pub mod Program
pub mod Status
pub mod Text
pub mod Views
pub mod Work
-- what the proofs of crates above cite
pub mod PlayLaws
