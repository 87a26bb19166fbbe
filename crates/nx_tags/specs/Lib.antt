pub mod Changing
pub mod Parts
pub mod Free
pub mod Elements
pub mod Answers
pub mod Given
pub mod Renamed
pub mod Fitting
-- ---- what private contracts cite
pub mod Reading
pub mod Closing
