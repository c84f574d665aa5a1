-- What is listed is read as its word.
pub mod FenceLemmas
pub mod SpellingLemmas
pub mod TripLemmas
pub mod LineLemmas
pub mod ListingLemmas
