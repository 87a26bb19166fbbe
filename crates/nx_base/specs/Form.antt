-- Forms of a piece of text: regular expressions over characters.
use Rattle.std.specs.Prelude.{◌≡◌, ◌<◌, ◌≤◌, ◌+◌, ℕ, Bool, true, false, ◌&&◌, ◌||◌, ◌==◌, not, if◌then◌else◌, List, [], ◌∷◌, ◌++◌, length}
use Rattle.std.specs.Prelude.{take, Option, Some, None, ◌⊎◌, ◌↔◌, IsTrue}
use Rattle.std.specs.List.{AllByRecursion}
use Rattle.std.specs.Option.{option_map}
use Rattle.std.specs.Str.{all_scalars}
use Rattle.nx_base.specs.Characters.{is_space, is_name_start, is_name_char}

-- a set of characters: a class of XML 1.0, one character, or all but two
pub data Set : Type 0 where
  space : Set
  name_start : Set
  name_char : Set
  only : ℕ → Set
  other_than : ℕ → ℕ → Set

abbrev pub has : Set → ℕ → Bool
has space c = is_space c
has name_start c = is_name_start c
has name_char c = is_name_char c
has (only d) c = c == d
has (other_than d e) c = not (c == d) && not (c == e)

-- no text, the empty text, one character, two forms in a row, one of two forms, any number of one form in a row
pub data Form : Type 0 where
  never : Form
  nothing : Form
  one : Set → Form
  seq : Form → Form → Form
  alt : Form → Form → Form
  many : Form → Form

-- the texts, joined
abbrev pub joined : List (List ℕ) → List ℕ
joined [] = []
joined (part ∷ parts) = part ++ joined parts

-- the form spells these characters
unfoldable pub Spells : Form → List ℕ → Type 0
Spells never cs = ⊥
Spells nothing cs = cs ≡ []
Spells (one set) cs = (c : ℕ) × (has set c ≡ true) × (cs ≡ c ∷ [])
Spells (seq a b) cs = (front back : List ℕ) × Spells a front × Spells b back × (cs ≡ front ++ back)
Spells (alt a b) cs = Spells a cs ⊎ Spells b cs
Spells (many a) cs = (parts : List (List ℕ)) × AllByRecursion (Spells a) parts × (cs ≡ joined parts)

-- it spells the empty text
abbrev pub may_end : Form → Bool
may_end never = false
may_end nothing = true
may_end (one set) = false
may_end (seq a b) = may_end a && may_end b
may_end (alt a b) = may_end a || may_end b
may_end (many a) = true

-- the set has a character that can stand in a text
abbrev pub has_some : Set → Bool
has_some space = true
has_some name_start = true
has_some name_char = true
has_some (only c) = all_scalars (c ∷ [])
has_some (other_than c d) = true

-- it spells some text
abbrev pub is_possible : Form → Bool
is_possible never = false
is_possible nothing = true
is_possible (one set) = has_some set
is_possible (seq a b) = is_possible a && is_possible b
is_possible (alt a b) = is_possible a || is_possible b
is_possible (many a) = true

-- two forms in a row, and one of two, where parts that spell nothing fall away
abbrev pub followed : Form → Form → Form
followed never b = never
followed nothing b = b
followed (one set) b = seq (one set) b
followed (seq x y) b = seq (seq x y) b
followed (alt x y) b = seq (alt x y) b
followed (many x) b = seq (many x) b

abbrev pub or_else : Form → Form → Form
or_else a never = a
or_else a nothing = alt a nothing
or_else a (one set) = alt a (one set)
or_else a (seq x y) = alt a (seq x y)
or_else a (alt x y) = alt a (alt x y)
or_else a (many x) = alt a (many x)

abbrev pub either : Form → Form → Form
either never b = b
either nothing b = or_else nothing b
either (one set) b = or_else (one set) b
either (seq x y) b = or_else (seq x y) b
either (alt x y) b = or_else (alt x y) b
either (many x) b = or_else (many x) b

-- what is left of a form behind a character: its derivative
abbrev pub after : Form → ℕ → Form
after never c = never
after nothing c = never
after (one set) c = if has set c then nothing else never
after (seq a b) c =
    if may_end a then either (followed (after a c) b) (after b c) else followed (after a c) b
after (alt a b) c = either (after a c) (after b c)
after (many a) c = followed (after a c) (many a)

-- whether the form spells these characters
unfoldable pub spells : Form → List ℕ → Bool
spells form [] = may_end form
spells form (c ∷ cs) = spells (after form c) cs

-- whether these characters begin some text that it spells
unfoldable pub begins : Form → List ℕ → Bool
begins form [] = is_possible form
begins form (c ∷ cs) = begins (after form c) cs

-- both are what they say
abbrev pub SpellsExactly : Type 0
SpellsExactly = (form : Form) (cs : List ℕ) → IsTrue (spells form cs) ↔ Spells form cs

abbrev pub BeginsExactly : Type 0
BeginsExactly = (form : Form) (cs : List ℕ) →
    IsTrue (begins form cs) ↔ ((rest : List ℕ) × (all_scalars rest ≡ true) × Spells form (cs ++ rest))

-- the shortest front of a list that passes
unfoldable pub shortest_front : (List ℕ → Bool) → List ℕ → Option (List ℕ)
shortest_front p [] = if p [] then Some [] else None
shortest_front p (c ∷ cs) =
    if p [] then Some [] else option_map (λ front. c ∷ front) (shortest_front (λ front. p (c ∷ front)) cs)

-- the list up to the first element through which it doesn't pass
unfoldable pub passing_front : (List ℕ → Bool) → List ℕ → List ℕ
passing_front p [] = []
passing_front p (c ∷ cs) =
    if p (c ∷ []) then c ∷ passing_front (λ front. p (c ∷ front)) cs else []

-- of the fronts of a list, this is the shortest that passes, or none does
abbrev pub IsShortestFront : (List ℕ → Bool) → List ℕ → Option (List ℕ) → Type 0
IsShortestFront p cs None = (n : ℕ) → p (take n cs) ≡ false
IsShortestFront p cs (Some front) =
    (p front ≡ true) × (front ≡ take (length front) cs) × ((n : ℕ) → n < length front → p (take n cs) ≡ false)

-- each front of this front passes but the empty one, and with the next element it doesn't
pub record IsPassingFront (p : List ℕ → Bool) (cs front : List ℕ) : Type 0 where
  pub front_of : front ≡ take (length front) cs
  pub passes : (n : ℕ) → 0 < n → n ≤ length front → p (take n cs) ≡ true
  pub stops : length front < length cs → p (take (length front + 1) cs) ≡ false

-- both are what they say
abbrev pub FrontsExactly : Type 0
FrontsExactly = (p : List ℕ → Bool) (cs : List ℕ) →
    IsShortestFront p cs (shortest_front p cs) × IsPassingFront p cs (passing_front p cs)
