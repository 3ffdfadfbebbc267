-- what the public contracts cite
pub mod Limit
pub mod Cert
pub mod Index
pub mod Edit
