-- texts and what they are cut into
pub mod Characters
pub mod CharacterCodes
pub mod Names
pub mod PrintedNames
pub mod Text
pub mod Form
pub mod Tags
pub mod Tokens
pub mod Trees
-- faults, and the machines that give them
pub mod Shifting
pub mod Rules
pub mod Running
pub mod Sameness
