-- ---- the laws
pub mod Exact
pub mod Uniqueness
pub mod Existence
-- ---- where a walk begins and ends
pub mod Walking
-- ---- the same over residuals, cited by private contracts
pub mod Asking
pub mod Answering
