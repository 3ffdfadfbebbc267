-- what the public contracts cite
pub mod Core
-- what serves inside
pub mod OrderReport
