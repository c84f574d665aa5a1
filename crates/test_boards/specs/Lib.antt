pub mod Casts
pub mod Seats
pub mod TaskSeats
