pub mod AtHand
pub mod Calls
pub mod Remembered
pub mod Texts
