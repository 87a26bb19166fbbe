mod Putting
mod CompactLoops
mod CompactHeads
mod Declaring
mod Trimmed
mod Noting
mod Cuts
mod Lexing
mod MarkupLoops
pub mod Handing
mod Held
mod Lengths
