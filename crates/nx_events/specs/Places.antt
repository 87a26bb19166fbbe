-- The last place of a name in a list of names, and a map that knows it.
use Rattle.std.specs.Prelude.{◌≡◌, ℕ, ◌-◌, nat_le, if◌then◌else◌, List, [], ◌∷◌, ◌++◌, map, take, drop, length, Option, Some, None, Vec}
use Rattle.std.specs.Prelude.{slice_get}
use Rattle.std.specs.BTreeMap.{BTreeMap, get_by}
use Rattle.std.specs.declared.alloc.Global.{Global}
use Rattle.std.specs.Cmp.Lexicographic.{slice_cmp}
use Rattle.std.specs.Option.{option_and_then}
use Rattle.std.specs.Ordering.{nat_cmp}
use Rattle.std.specs.Str.{bytes_eq}
use Rattle.nx_events.specs.Choices.{or_else, one_more}
use Rattle.nx_events.specs.declared.name_places.Placed.{Placed}

-- the last place that a name has
unfoldable pub last_place : List ℕ → List (List ℕ) → Option ℕ
last_place name [] = None
last_place name (other ∷ names) = or_else (one_more (last_place name names)) (if bytes_eq other name then Some 0 else None)

-- the last of the things that have the name
abbrev pub last_named : {T : Type 0} → (T → List ℕ) → List ℕ → List T → Option T
last_named name_of name all = option_and_then (slice_get all) (last_place name (map name_of all))

-- what a map has for a name
abbrev pub place_at : {X : Type 0} → BTreeMap (Vec ℕ Global) X → List ℕ → Option X
place_at places name = get_by (λ key. slice_cmp nat_cmp name key.items) places

-- it has this for a name, or nothing, and for all others what it had
abbrev pub PutsAt : List ℕ → Option ℕ → BTreeMap (Vec ℕ Global) ℕ → BTreeMap (Vec ℕ Global) ℕ → Type 0
PutsAt name place old new = (other : List ℕ) → place_at new other ≡ (if bytes_eq name other then place else place_at old other)

abbrev pub names_in : List Placed → List (List ℕ)
names_in all = map (λ (it : Placed). it.name.items) all

-- with each name stands its last place among those before it
abbrev pub Linked : List (List ℕ) → List Placed → Type 0
Linked before [] = Unit {0}
Linked before (it ∷ others) = (it.around ≡ last_place it.name.items before) × Linked (before ++ it.name.items ∷ []) others

-- the map has the last place of each name
pub record IsIndexed (all : List Placed) (last : BTreeMap (Vec ℕ Global) ℕ) : Type 0 where
  pub found : (name : List ℕ) → place_at last name ≡ last_place name (names_in all)
  pub linked : Linked [] all

-- the first so many of a list have no place in a map
abbrev pub looked_through : ℕ
looked_through = 32

abbrev pub behind_those : {T : Type 0} → (T → List ℕ) → List T → List (List ℕ)
behind_those name_of all = map name_of (drop looked_through all)

-- the names behind those, where one more is put behind so many, and where it is taken off again
abbrev pub one_name_more : ℕ → List (List ℕ) → List ℕ → List (List ℕ)
one_name_more len names name = if nat_le looked_through len then names ++ name ∷ [] else names

abbrev pub one_name_less : ℕ → List (List ℕ) → List (List ℕ)
one_name_less len names = if nat_le looked_through len then take (length names - 1) names else names
