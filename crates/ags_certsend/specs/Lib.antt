-- what the public contracts cite
pub mod Spelled
pub mod CertText
-- what serves inside
pub mod Section
