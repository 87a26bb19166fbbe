-- ---- what a reader must believe: which patterns are left of a way, which moves fill them, and that these are a rest
pub mod Left
pub mod Filled
pub mod Laws
-- ---- what private contracts cite
pub mod Fit
