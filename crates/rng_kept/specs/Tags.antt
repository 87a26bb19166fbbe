-- What is left of a residual behind an attribute, and behind the end of a start tag.
use Rattle.std.specs.Prelude.{ℕ, List, [], ◌∷◌, if◌then◌else◌}
use Rattle.nx_base.specs.declared.name.Name.{Name}
use Rattle.rng_core.specs.Patterns.{Pattern}
use Rattle.rng_kept.specs.SmallPatterns.{is_not_allowed}
use Rattle.rng_kept.specs.Nullable.{nullable}
use Rattle.rng_kept.specs.Strings.{after}
use Rattle.rng_kept.specs.SolidStrings.{loosen}
use Rattle.rng_kept.specs.Attributes.{after_attribute, after_any_attribute, close, drop}
use Rattle.rng_kept.specs.Residuals.{Outer, inside, Way, among, in_tag, Residual}
use Rattle.rng_kept.specs.Merging.{stepped}
use Rattle.rng_kept.specs.Content.{among_of}

-- a way in a start tag, unless nothing is taken
abbrev pub tag_of : Pattern → Outer → Residual
tag_of p o = if is_not_allowed p then [] else in_tag p o ∷ []

abbrev pub attribute_way : Name → List ℕ → Way → Residual
attribute_way n v (among o) = []
attribute_way n v (in_tag p o) = tag_of (after_attribute n v p) o

abbrev pub attribute_of : Name → List ℕ → Residual → Residual
attribute_of n v x = stepped (attribute_way n v) [] x

abbrev pub any_value_way : Name → Way → Residual
any_value_way n (among o) = []
any_value_way n (in_tag p o) = tag_of (after_any_attribute n p) o

-- whatever its value
abbrev pub attribute_any : Name → Residual → Residual
attribute_any n x = stepped (any_value_way n) [] x

-- ---- behind the end of a start tag

abbrev pub children_of : Pattern → Outer → Outer
children_of p o = inside (close p) (loosen (close p)) (nullable (after [] (close p))) o

abbrev pub tag_end_way : Way → Residual
tag_end_way (among o) = []
tag_end_way (in_tag p o) = among_of (children_of p o)

abbrev pub tag_end : Residual → Residual
tag_end x = stepped (tag_end_way) [] x

-- and with what attributes are missing
abbrev pub missing_way : Way → Residual
missing_way (among o) = []
missing_way (in_tag p o) = among_of (children_of (drop p) o)

abbrev pub tag_end_missing : Residual → Residual
tag_end_missing x = stepped missing_way [] x
