-- what the public contracts cite
pub mod Judging
pub mod Finding
pub mod Checking
pub mod Told
-- what serves inside
pub mod Asking
