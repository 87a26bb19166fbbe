-- The definitions that have a name, put together one by one.
use Rattle.std.specs.Prelude.{ℕ, List, [], ◌∷◌, ◌+◌, if◌then◌else◌}
use Rattle.nx_base.specs.declared.name.Name.{Name}
use Rattle.rng_core.specs.Names.{has_name}
use Rattle.rng_core.specs.Patterns.{Pattern, Definition, ref, choice}
use Rattle.rng_kept.specs.SmallPatterns.{is_not_allowed}

-- with a reference that isn't there yet
abbrev pub with_ref : Pattern → ℕ → Pattern
with_ref p i = if is_not_allowed p then ref i else choice p (ref i)

-- with those of the definitions that have the name, of which the first has this number
abbrev pub with_known : Pattern → List Definition → Name → ℕ → Pattern
with_known p [] n i = p
with_known p (d ∷ ds) n i = if has_name d.class n then with_known (with_ref p i) ds n (i + 1) else with_known p ds n (i + 1)
