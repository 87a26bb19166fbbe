-- ---- what a reader must believe: the tables of types, what they accept, which values are the same, which texts are members
pub mod Spaces
pub mod Words
pub mod Numbers
pub mod Facets
pub mod Table
pub mod Types
pub mod Naming
pub mod Members
pub mod OneToken
pub mod Giving
-- ---- laws: of types as they are made, and of dates, times and octets
pub mod WellMade
pub mod MoreLaws
-- ---- the same as answers, which code computes
pub mod Rows
pub mod Answers
pub mod Equality
pub mod Offsets
pub mod NumberMembers
pub mod TextMembers
pub mod MemberTest
