-- Lists of events: their attributes, their strings, and whether a tag repeats an attribute.
use Rattle.std.specs.Prelude.{◌≡◌, ℕ, List, [], ◌∷◌, IsTrue}
use Rattle.std.specs.List.{AllByRecursion}
use Rattle.std.specs.Str.{is_utf8}
use Rattle.nx_base.specs.declared.name.Name.{Name}
use Rattle.nx_base.specs.Trees.{Event, Enter, Att, TagEnd, Chars, Leave}

-- a name is among these
pub data IsAmong (n : Name) : List Name → Type 0 where
  first : {m : Name} {l : List Name} → m ≡ n → IsAmong n (m ∷ l)
  later : {m : Name} {l : List Name} → IsAmong n l → IsAmong n (m ∷ l)

-- the strings of an event are UTF-8
abbrev pub IsText : Event → Type 0
IsText (Enter n) = Unit {0}
IsText (Att n v) = IsTrue (is_utf8 v)
IsText TagEnd = Unit {0}
IsText (Chars t) = IsTrue (is_utf8 t)
IsText Leave = Unit {0}

abbrev pub AreText : List Event → Type 0
AreText events = AllByRecursion IsText events

-- no tag repeats an attribute, where the one that is open in front of the events has these
pub data IsDistinct : List Name → List Event → Type 0 where
  distinct_end : {l : List Name} → IsDistinct l []
  distinct_attribute : {l : List Name} {n : Name} {v : List ℕ} {s : List Event}
      → (IsAmong n l → ⊥) → IsDistinct (n ∷ l) s → IsDistinct l (Att n v ∷ s)
  distinct_enter : {l : List Name} {n : Name} {s : List Event} → IsDistinct [] s → IsDistinct l (Enter n ∷ s)
  distinct_tag_end : {l : List Name} {s : List Event} → IsDistinct [] s → IsDistinct l (TagEnd ∷ s)
  distinct_chars : {l : List Name} {t : List ℕ} {s : List Event} → IsDistinct [] s → IsDistinct l (Chars t ∷ s)
  distinct_leave : {l : List Name} {s : List Event} → IsDistinct [] s → IsDistinct l (Leave ∷ s)
