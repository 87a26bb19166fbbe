pub mod ApartStrings
pub mod Constraints
pub mod Document
pub mod LegalReadings
pub mod WellFormed
