pub mod Bids
pub mod Laws
pub mod Places
pub mod Seatings
pub mod Vacancies
