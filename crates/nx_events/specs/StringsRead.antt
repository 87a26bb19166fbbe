-- How character data, CDATA sections, values, comments and processing instructions are read, case by case
-- (XML 1.0, 2.2, 2.4, 2.11, 3.3.3, 4.1 and 4.4): what stands for them, and what is wrong in them.
use Rattle.std.specs.Prelude.{◌≡◌, ◌≢◌, ◌⊎◌, ◌↔◌, ℕ, ◌+◌, Bool, true, false, if◌then◌else◌, List, [], ◌∷◌, ◌++◌, length, codes, Option}
use Rattle.std.specs.Prelude.{Some, None}
use Rattle.std.specs.Char.{encode_utf8}
use Rattle.std.specs.Str.{IsUtf8, all_scalars}
use Rattle.nx_base.specs.Characters.{is_char, is_space}
use Rattle.nx_base.specs.declared.fault.Fault.{Fault}
use Rattle.nx_base.specs.declared.fault.Kind.{Kind}
use Rattle.nx_base.specs.declared.fault.Kind.TheVariants.{BadChar, BadReference, BadText}
use Rattle.nx_events.specs.declared.reading.Reading.{Reading}
use Rattle.nx_events.specs.declared.reading.Reading.TheVariants.{Plain, Text, Value}
use Rattle.nx_events.specs.Faults.{bare_faults}
use Rattle.nx_events.specs.Strings.{string_of}
use Rattle.nx_events.specs.CharacterFaults.{character_faults}
use Rattle.nx_events.specs.ReferenceForm.{HasShape, Denotes}

-- the text begins with this mark
abbrev pub Begins : List ℕ → List ℕ → Type 0
Begins mark text = (more : List ℕ) × (text ≡ mark ++ more)

-- references are read in character data and in values (4.4)
abbrev pub reads_references : Reading → Bool
reads_references Plain = false
reads_references Text = true
reads_references Value = true

-- a character stands for itself; in a value white space stands for a space (3.3.3)
abbrev pub character_in : Reading → ℕ → List ℕ
character_in Plain c = encode_utf8 c
character_in Text c = encode_utf8 c
character_in Value c = if is_space c then codes " " else encode_utf8 c

abbrev pub flaw_of : ℕ → Option Kind
flaw_of c = if is_char c then None else Some BadChar

-- a character in front of this rest that isn't read in any other way: no line's end, no reference, no `]]>` in character data
pub record IsOrdinary (reading : Reading) (c : ℕ) (rest : List ℕ) : Type 0 where
  pub no_return : c ≢ 13
  pub no_ampersand : reads_references reading ≡ true → c ≢ 38
  pub no_brackets : reading ≡ Text → Begins (codes "]]>") (encode_utf8 c ++ rest) → ⊥

-- one part of a text, in front of this rest; the string that stands for it, and what is wrong with it
pub data IsPart (reading : Reading) (rest bytes string : List ℕ) (flaw : Option Kind) : Type 0 where
  -- a line's end: CR LF, or a CR without LF (2.11)
  return_and_feed : bytes ≡ 13 ∷ 10 ∷ [] → string ≡ character_in reading 10 → flaw ≡ None → IsPart reading rest bytes string flaw
  return : bytes ≡ 13 ∷ [] → (Begins (10 ∷ []) rest → ⊥) → string ≡ character_in reading 10 → flaw ≡ None
      → IsPart reading rest bytes string flaw
  -- a character, which has to be a Char (2.2)
  character : (c : ℕ) → all_scalars (c ∷ []) ≡ true → bytes ≡ encode_utf8 c → IsOrdinary reading c rest →
      string ≡ character_in reading c → flaw ≡ flaw_of c → IsPart reading rest bytes string flaw
  -- a reference to a character or to one of the five entities (4.1, 4.6)
  reference : reads_references reading ≡ true → (body : List ℕ) (c : ℕ) → Denotes body c → bytes ≡ 38 ∷ (body ++ 59 ∷ []) →
      string ≡ encode_utf8 c → flaw ≡ None → IsPart reading rest bytes string flaw
  -- what has the shape of a reference and denotes nothing, through its `;` (59)
  unknown : reads_references reading ≡ true → (body : List ℕ) → HasShape body → ((c : ℕ) → Denotes body c → ⊥) → bytes
      ≡ 38 ∷ (body ++ 59 ∷ []) →
      string ≡ [] → flaw ≡ Some BadReference → IsPart reading rest bytes string flaw
  -- a `&` that nothing of that shape follows, alone
  ampersand : reads_references reading ≡ true → ((body : List ℕ) → HasShape body → Begins (body ++ 59 ∷ []) rest → ⊥) → bytes ≡ 38 ∷ [] →
      string ≡ [] → flaw ≡ Some BadReference → IsPart reading rest bytes string flaw
  -- `]]>` in character data (2.4)
  brackets : reading ≡ Text → bytes ≡ codes "]]>" → string ≡ codes "]]>" → flaw ≡ Some BadText → IsPart reading rest bytes string flaw

-- a text that begins at the place `at`, part by part; its string, and all that is wrong, by place
pub data IsReadInParts (reading : Reading) : ℕ → List ℕ → List ℕ → List Fault → Type 0 where
  finished : (at : ℕ) (bytes string : List ℕ) (faults : List Fault) → bytes ≡ [] → string ≡ [] → faults ≡ []
      → IsReadInParts reading at bytes string faults
  goes_on : (at : ℕ) (bytes string : List ℕ) (faults : List Fault) (front rest first others : List ℕ) (flaw : Option Kind)
      (later : List Fault) →
      IsPart reading rest front first flaw → IsReadInParts reading (at + length front) rest others later →
      bytes ≡ front ++ rest → string ≡ first ++ others → faults ≡ bare_faults flaw (record { from = at; to = at + length front }) ++ later →
      IsReadInParts reading at bytes string faults

-- BadChar and BadText are told once
abbrev pub IsToldOnce : Kind → Type 0
IsToldOnce BadChar = Unit {0}
IsToldOnce BadText = Unit {0}
IsToldOnce _ = ⊥

abbrev pub HasKind : List Kind → Kind → Type 0
HasKind [] kind = ⊥
HasKind (other ∷ kinds) kind = (other ≡ kind) ⊎ HasKind kinds kind

-- of faults behind others of these kinds those that are told: not one of a kind that is told once and came before
pub data AreTold : List Kind → List Fault → List Fault → Type 0 where
  none : (before : List Kind) (all told : List Fault) → all ≡ [] → told ≡ [] → AreTold before all told
  again : (before : List Kind) (all told : List Fault) (fault : Fault) (others : List Fault) → IsToldOnce fault.kind
      → HasKind before fault.kind →
      AreTold (fault.kind ∷ before) others told → all ≡ fault ∷ others → AreTold before all told
  new : (before : List Kind) (all told : List Fault) (fault : Fault) (others later : List Fault)
      → (IsToldOnce fault.kind → HasKind before fault.kind → ⊥) →
      AreTold (fault.kind ∷ before) others later → all ≡ fault ∷ others → told ≡ fault ∷ later → AreTold before all told

-- the string that stands for bytes at a place, and their faults
pub record IsReadAs (reading : Reading) (at : ℕ) (bytes string : List ℕ) (faults : List Fault) : Type 0 where
  pub all : List Fault
  pub reads : IsReadInParts reading at bytes string all
  pub told : AreTold [] all faults

-- bytes that are UTF-8 are read as exactly one string with exactly one list of faults
abbrev pub StringsAreRead : Type 0
StringsAreRead = (reading : Reading) (at : ℕ) (bytes string : List ℕ) (faults : List Fault) → IsUtf8 bytes →
    IsReadAs reading at bytes string faults ↔ ((string ≡ string_of reading bytes) × (faults ≡ character_faults reading at bytes))
