-- What the states of a matcher stand for.
use Rattle.std.specs.Prelude.{List, map}
use Rattle.rng_core.specs.Meaning.{pattern_of}
use Rattle.rng_kept.specs.Residuals.{Outer, document, inside, one_of, Way, among, in_tag, Residual}
use Rattle.deriv_plain.specs.declared.around.Around.{Around}
use Rattle.deriv_plain.specs.declared.around.Around.TheVariants as around
use Rattle.deriv_plain.specs.declared.ways.OneWay.{OneWay}
use Rattle.deriv_plain.specs.declared.ways.OneWay.TheVariants as way

abbrev pub outer_of : Around → Outer
outer_of (around.Document rest) = document (pattern_of rest)
outer_of (around.Inside' strict loose void p outer) = inside (pattern_of strict) (pattern_of loose) void (outer_of outer)
outer_of (around.OneOf' p this q other) = one_of (outer_of this) (outer_of other)

abbrev pub way_of : OneWay → Way
way_of (way.Among here) = among (outer_of here.value)
way_of (way.InTag content outer) = in_tag (pattern_of content) (outer_of outer.value)

abbrev pub residual_of : List OneWay → Residual
residual_of ways = map way_of ways
