pub mod CodePlaces
pub mod Characters
