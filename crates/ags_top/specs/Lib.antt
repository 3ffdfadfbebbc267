-- what the public contracts cite
pub mod Listed
pub mod Outcome
pub mod Promises
pub mod ThirdFile
-- what serves inside
pub mod ProgramLaws
pub mod Telling
