-- ---- what a reader must believe: which faults a text has
pub mod Details
pub mod Frames
pub mod Outcomes
pub mod Nesting
pub mod Faults
pub mod Behind
-- ---- what a place is offered
pub mod Offered
pub mod Offers
pub mod Completing
-- ---- the same over residuals, which a matcher computes
pub mod Required
pub mod Needed
pub mod Table
pub mod Items
pub mod RecoverRules
-- ---- states of a matcher in the place of residuals, cited by private contracts
pub mod States
pub mod Admitting
pub mod Aside
pub mod PlainSteps
pub mod Machine
pub mod OpenNames
pub mod Packing
-- ---- proofs of the laws that the machine hands on, which have to stand here
pub mod Later
pub mod MachineLaws
