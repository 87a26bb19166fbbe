pub mod Cursors
pub mod Shown
