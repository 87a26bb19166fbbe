-- Whether the text of a string can matter to a residual, beside whether it is blank.
use Rattle.std.specs.Prelude.{◌≡◌, ℕ, List, Bool, false, ◌||◌}
use Rattle.std.specs.List.{list_any}
use Rattle.nx_base.specs.declared.name.Name.{Name}
use Rattle.nx_base.specs.Characters.{is_blank}
use Rattle.rng_kept.specs.Content.{chars}
use Rattle.rng_kept.specs.Tags.{attribute_of}
use Rattle.rng_kept.specs.Residuals.{Outer, document, inside, one_of, Way, among, in_tag, Residual}
use Rattle.deriv_nodes.specs.Telling.{tells_strings, tells_values}

abbrev pub outer_tells : Outer → Bool
outer_tells (document p) = tells_strings p
outer_tells (inside b l v o) = tells_strings b || tells_strings l
outer_tells (one_of o u) = outer_tells o || outer_tells u

abbrev pub way_tells : Way → Bool
way_tells (among o) = outer_tells o
way_tells (in_tag p o) = false

-- among children one way tells strings apart
abbrev pub tells_texts : Residual → Bool
tells_texts x = list_any way_tells x

abbrev pub way_tells_of : Name → Way → Bool
way_tells_of n (among o) = false
way_tells_of n (in_tag p o) = tells_values n p

-- in a start tag one way tells values of attributes of the name apart
abbrev pub tells_values_of : Name → Residual → Bool
tells_values_of n x = list_any (way_tells_of n) x

-- a residual that tells none apart is the same behind all strings that are blank, or aren't, and so with values
pub record TextsAreAlike : Type 0 where
  pub texts : (t u : List ℕ) (x : Residual) → is_blank t ≡ is_blank u → tells_texts x ≡ false → chars t x ≡ chars u x
  pub values : (n : Name) (v w : List ℕ) (x : Residual) → is_blank v ≡ is_blank w → tells_values_of n x ≡ false
      → attribute_of n v x ≡ attribute_of n w x
