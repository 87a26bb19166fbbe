-- Values of the code as those of the definitions.
use Rattle.std.specs.Prelude.{◌≡◌, Option, None, Some}
use Rattle.rng_more_types.specs.Literals.{Moment}
use Rattle.rng_more_types.specs.declared.moment.Instant.{Instant}

-- a call answers what reading finds, seen by view
abbrev pub Finds : {A B : Type 0} → (A → B) → Option A → Option B → Type 0
Finds view None found = found ≡ None
Finds view (Some value) found = found ≡ Some (view value)

-- the moment that code holds
abbrev pub told : Instant → Moment
told instant = record { zoned = instant.zoned; seconds = instant.seconds; fraction = instant.fraction.now }
