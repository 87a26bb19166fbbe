-- Ways that are merged, so that a residual doesn't double with each element: those with the same outside are one, and so are those that
-- differ in what is left around alone.
use Rattle.std.specs.Prelude.{[], ◌∷◌, Bool, true, false, not, ◌&&◌, ◌||◌, if◌then◌else◌, Option, Some, None}
use Rattle.rng_core.specs.Patterns.{Pattern}
use Rattle.rng_core.specs.Equality.{same_pattern}
use Rattle.rng_kept.specs.SmallPatterns.{choice_of}
use Rattle.rng_kept.specs.Residuals.{Outer, document, inside, one_of, Way, among, in_tag, Residual}

abbrev pub same_flag : Bool → Bool → Bool
same_flag true w = w
same_flag false w = not w

abbrev pub in_document : (Pattern → Bool) → Outer → Bool
in_document f (document p) = f p
in_document f (inside b l v o) = false
in_document f (one_of o u) = false

abbrev pub in_inside : (Pattern → Bool) → (Pattern → Bool) → (Bool → Bool) → (Outer → Bool) → Outer → Bool
in_inside f g h k (document p) = false
in_inside f g h k (inside b l v o) = f b && (g l && (h v && k o))
in_inside f g h k (one_of o u) = false

abbrev pub in_one_of : (Outer → Bool) → (Outer → Bool) → Outer → Bool
in_one_of f g (document p) = false
in_one_of f g (inside b l v o) = false
in_one_of f g (one_of o u) = f o && g u

-- whether two are surely one
abbrev pub same_outer : Outer → Outer → Bool
same_outer (document p) r = in_document (same_pattern p) r
same_outer (inside b l v o) r = in_inside (same_pattern b) (same_pattern l) (same_flag v) (same_outer o) r
same_outer (one_of o u) r = in_one_of (same_outer o) (same_outer u) r

-- ---- what is left in one of two ways

-- whether an outer is one that there is a choice of, or the whole
abbrev pub is_outer_in : Outer → Outer → Bool
is_outer_in u (one_of o r) = is_outer_in u o || same_outer u r
is_outer_in u o = same_outer u o

-- a choice with one more, unless it is there
abbrev pub with_outer : Outer → Outer → Outer
with_outer o u = if is_outer_in u o then o else one_of o u

-- and with each that there is a choice of in a second one
abbrev pub either_outer : Outer → Outer → Outer
either_outer o (one_of u r) = either_outer (either_outer o u) r
either_outer o u = with_outer o u

-- ---- two ways in one

-- whether what is left of the children is surely the same
abbrev pub same_children : Pattern → Pattern → Bool → Pattern → Pattern → Bool → Bool
same_children b l v c k w = same_pattern b c && (same_pattern l k && same_flag v w)

abbrev pub can_join : Outer → Outer → Bool
can_join (document p) (document q) = true
can_join (inside b l v o) (inside c k w u) = same_outer o u || same_children b l v c k w
can_join _ _ = false

abbrev pub joined_outer : Outer → Outer → Outer
joined_outer (document p) (document q) = document (choice_of p q)
joined_outer (inside b l v o) (inside c k w u) =
    if same_outer o u then inside (choice_of b c) (choice_of l k) (v || w) o else inside b l v (either_outer o u)
joined_outer o _ = o

abbrev pub can_join_ways : Way → Way → Bool
can_join_ways (among o) (among u) = can_join o u
can_join_ways (among o) (in_tag q u) = false
can_join_ways (in_tag p o) (among u) = false
can_join_ways (in_tag p o) (in_tag q u) = same_pattern p q

abbrev pub joined_way : Way → Way → Way
joined_way (among o) (among u) = among (joined_outer o u)
joined_way (among o) (in_tag q u) = among o
joined_way (in_tag p o) (among u) = in_tag p o
joined_way (in_tag p o) (in_tag q u) = in_tag p (either_outer o u)

-- with one way more, and with more
abbrev pub with_way : Residual → Way → Residual
with_way [] w = w ∷ []
with_way (x ∷ xs) w = if can_join_ways x w then joined_way x w ∷ xs else x ∷ with_way xs w

abbrev pub with_ways : Residual → Residual → Residual
with_ways xs [] = xs
with_ways xs (w ∷ ws) = with_ways (with_way xs w) ws

-- a step of each way, merged
abbrev pub stepped : (Way → Residual) → Residual → Residual → Residual
stepped f done [] = done
stepped f done (w ∷ ws) = stepped f (with_ways done (f w)) ws

-- a residual as an answer: none where nothing is left
abbrev pub answered : Residual → Option Residual
answered [] = None
answered (w ∷ ws) = Some (w ∷ ws)
