-- A map that knows the last pair of each prefix among declarations. No public contract rests on it.
use Rattle.std.specs.Prelude.{◌≡◌, ℕ, List, map, Option, slice_get, Vec}
use Rattle.std.specs.BTreeMap.{BTreeMap}
use Rattle.std.specs.Option.{option_map, option_and_then}
use Rattle.std.specs.declared.alloc.Global.{Global}
use Rattle.nx_base.specs.declared.name.Name.{Name}
use Rattle.nx_events.specs.Places.{last_place, place_at}

-- it has for each prefix the place of its last pair
abbrev pub IsIndex : List Name → BTreeMap (Vec ℕ Global) ℕ → Type 0
IsIndex pairs places = (prefix : List ℕ) → place_at places prefix ≡ last_place prefix (map (λ (pair : Name). pair.local) pairs)

-- the URI of the pair at the place
abbrev pub uri_at : List Name → Option ℕ → Option (List ℕ)
uri_at pairs place = option_map (λ (pair : Name). pair.ns) (option_and_then (slice_get pairs) place)
