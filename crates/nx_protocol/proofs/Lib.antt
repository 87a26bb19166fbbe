mod Heard
mod Served
mod Framed
mod Going
mod EachKind
pub mod Kept
