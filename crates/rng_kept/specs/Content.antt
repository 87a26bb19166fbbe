-- What is left of a residual behind a string, and behind an element's end.
use Rattle.std.specs.Prelude.{ℕ, List, [], ◌∷◌, Bool, false, not, ◌&&◌, ◌||◌, if◌then◌else◌}
use Rattle.nx_base.specs.Characters.{is_blank}
use Rattle.rng_core.specs.Patterns.{Pattern}
use Rattle.rng_kept.specs.SmallPatterns.{is_not_allowed}
use Rattle.rng_kept.specs.Nullable.{nullable}
use Rattle.rng_kept.specs.Strings.{after}
use Rattle.rng_kept.specs.SolidStrings.{after_solid}
use Rattle.rng_kept.specs.Residuals.{Outer, document, inside, one_of, Way, among, in_tag, Residual}
use Rattle.rng_kept.specs.Merging.{with_ways, stepped}

-- nothing is taken
abbrev pub is_dead_outer : Outer → Bool
is_dead_outer (document p) = is_not_allowed p
is_dead_outer (inside b l v o) = is_not_allowed b && (is_not_allowed l && not v)
is_dead_outer (one_of o u) = is_dead_outer o && is_dead_outer u

-- one way to go on among children, unless nothing is taken
abbrev pub among_of : Outer → Residual
among_of o = if is_dead_outer o then [] else among o ∷ []

-- ---- behind a string: of the children without blank strings a blank one is none

abbrev pub loose_after : List ℕ → Pattern → Pattern
loose_after t l = if is_blank t then l else after t l

abbrev pub chars_outer : List ℕ → Outer → Residual
chars_outer t (document p) = among_of (document (after t p))
chars_outer t (inside b l v o) = among_of (inside (after t b) (loose_after t l) false o)
chars_outer t (one_of o u) = with_ways (chars_outer t o) (chars_outer t u)

abbrev pub chars_way : List ℕ → Way → Residual
chars_way t (among o) = chars_outer t o
chars_way t (in_tag p o) = []

abbrev pub chars : List ℕ → Residual → Residual
chars t x = stepped (chars_way t) [] x

-- ---- behind a string that isn't blank, whichever

abbrev pub any_string_outer : Outer → Residual
any_string_outer (document p) = among_of (document (after_solid p))
any_string_outer (inside b l v o) = among_of (inside (after_solid b) (after_solid l) false o)
any_string_outer (one_of o u) = with_ways (any_string_outer o) (any_string_outer u)

abbrev pub any_string_way : Way → Residual
any_string_way (among o) = any_string_outer o
any_string_way (in_tag p o) = []

abbrev pub chars_any : Residual → Residual
chars_any x = stepped any_string_way [] x

-- ---- behind an element's end

-- each way to go on among what is left around
abbrev pub ways_of : Outer → Residual
ways_of (one_of o u) = with_ways (ways_of o) (ways_of u)
ways_of o = among o ∷ []

abbrev pub may_leave : Pattern → Pattern → Bool → Bool
may_leave b l v = nullable b || (nullable l || v)

abbrev pub leave_outer : Outer → Residual
leave_outer (document p) = []
leave_outer (inside b l v o) = if may_leave b l v then ways_of o else []
leave_outer (one_of o u) = with_ways (leave_outer o) (leave_outer u)

abbrev pub leave_way : Way → Residual
leave_way (among o) = leave_outer o
leave_way (in_tag p o) = []

abbrev pub leave : Residual → Residual
leave x = stepped leave_way [] x

-- ---- behind children that are left out

abbrev pub leave_skip_outer : Outer → Residual
leave_skip_outer (document p) = []
leave_skip_outer (inside b l v o) = ways_of o
leave_skip_outer (one_of o u) = with_ways (leave_skip_outer o) (leave_skip_outer u)

abbrev pub leave_skip_way : Way → Residual
leave_skip_way (among o) = leave_skip_outer o
leave_skip_way (in_tag p o) = []

abbrev pub leave_skip : Residual → Residual
leave_skip x = stepped leave_skip_way [] x
