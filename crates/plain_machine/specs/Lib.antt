pub mod DistinctPlaces
pub mod Plain
pub mod inside
