pub mod DiskPathLemmas
pub mod JoinsOrBad
pub mod PathUris
pub mod Splits
pub mod TableLemmas
pub mod TextFronts
