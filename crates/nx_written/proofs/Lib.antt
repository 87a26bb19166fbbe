pub mod Escaping
pub mod Naming
pub mod Tags
pub mod Documents
pub mod Cutting
pub mod Fronts
pub mod Completing
pub mod Reaching
pub mod Begun
pub mod BegunTexts
pub mod Prefixes
pub mod Spellings
pub mod Writing
mod SpelledTags
