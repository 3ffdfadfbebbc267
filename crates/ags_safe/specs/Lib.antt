-- what the public contracts cite: rows, cases and their posts
pub mod Case
pub mod Line
pub mod Linked
pub mod Told
pub mod Posts
pub mod PlainCase
pub mod InRow
pub mod OneStep
pub mod Going
-- certificates
pub mod Certificate
pub mod Start
pub mod Safe
pub mod Accepted
pub mod Failing
pub mod Plain
