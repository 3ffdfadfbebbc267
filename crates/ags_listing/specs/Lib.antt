-- what the public contracts cite
pub mod Limit
pub mod ErrorText
pub mod Listing
pub mod Reads
-- what serves inside
pub mod PlacedListing
