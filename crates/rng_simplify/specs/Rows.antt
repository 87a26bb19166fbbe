-- Patterns in a row as one pattern.
use Rattle.std.specs.Prelude.{List, map}
use Rattle.rnc_parse.specs.declared.surface.Pattern.{Pattern}
use Rattle.rnc_parse.specs.Views.{pattern_of}
use Rattle.rnc_parse.specs.Written.{WrittenPattern, joined_or}
use Rattle.rnc_parse.specs.Written as written
use Rattle.rng_simplify.specs.declared.node.Sign.{Sign}
use Rattle.rng_simplify.specs.declared.node.Sign.TheVariants as sign

abbrev pub join_by : Sign → WrittenPattern → WrittenPattern → WrittenPattern
join_by sign.Choice = written.choice
join_by sign.Group = written.group
join_by sign.Interleave = written.interleave

abbrev pub none_by : Sign → WrittenPattern
none_by sign.Choice = written.not_allowed
none_by sign.Group = written.empty
none_by sign.Interleave = written.empty

-- patterns joined by a sign nest to the left; one is itself
abbrev pub row_of : Sign → List Pattern → WrittenPattern
row_of by patterns = joined_or (join_by by) (none_by by) (map pattern_of patterns)
