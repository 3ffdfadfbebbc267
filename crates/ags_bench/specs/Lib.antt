-- what the public contracts cite
pub mod Words
pub mod Files
pub mod Work
pub mod Program
pub mod Outcome
pub mod Promises
-- what serves inside
pub mod Scripts
pub mod Views
pub mod Loaded
pub mod Doing
pub mod ProgramLaws
