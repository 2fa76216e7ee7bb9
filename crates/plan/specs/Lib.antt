pub mod Labels
pub mod Ledger
pub mod Admissions
pub mod Together
pub mod Promise
