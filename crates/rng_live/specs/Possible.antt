-- Names among which are all that a residual requires.
use Rattle.std.specs.Prelude.{List, Contains, IsTrue, ◌&&◌}
use Rattle.nx_base.specs.declared.name.Name.{Name}
use Rattle.rng_kept.specs.Residuals.{Residual, is_in_tag}
use Rattle.rng_kept.specs.Required.{is_required}

pub record ArePossible (x : Residual) (names : List Name) : Type 0 where
  pub whole : (n : Name) → IsTrue (is_in_tag x && is_required n x) → Contains names n
  pub tag : (n : Name) → Contains names n → IsTrue (is_in_tag x)
