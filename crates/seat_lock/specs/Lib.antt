pub mod History
pub mod View
pub mod Seats
pub mod Turned
pub mod Views
pub mod Rule
