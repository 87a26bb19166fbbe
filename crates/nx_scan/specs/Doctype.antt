-- Where a document type declaration ends, in the words of XML 1.0, 2.8.
use Rattle.std.specs.Prelude.{◌≡◌, ◌↔◌, ◌⊎◌, ℕ, ◌<◌, ◌≤◌, Bool, true, false, List, [], ◌∷◌, ◌++◌, length, take, drop, codes, Some}
use Rattle.nx_base.specs.Tokens.{doctype_bytes}

-- the bytes are this mark and more
abbrev pub BeginsWith : List ℕ → List ℕ → Type 0
BeginsWith mark bytes = (more : List ℕ) × (bytes ≡ mark ++ more)

-- these bytes are a content, the first such mark in them, and the rest
pub record IsThrough (mark content rest bytes : List ℕ) : Type 0 where
  pub parts : bytes ≡ content ++ (mark ++ rest)
  pub first : (k : ℕ) → k < length content → BeginsWith mark (drop k bytes) → ⊥

-- `"` (34) or `'` (39)
abbrev pub IsQuote : ℕ → Type 0
IsQuote b = (b ≡ 34) ⊎ (b ≡ 39)

-- `[` (91) or `]` (93)
abbrev pub IsBracket : ℕ → Type 0
IsBracket b = (b ≡ 91) ⊎ (b ≡ 93)

-- the bytes begin with one that has no meaning of its own: it is no quote and no bracket, outside of the subset no `>` (62),
-- and in the subset neither a comment nor a processing instruction begins with it
pub record IsOther (subset : Bool) (byte : ℕ) (all : List ℕ) : Type 0 where
  pub quote : IsQuote byte → ⊥
  pub bracket : IsBracket byte → ⊥
  pub outside : subset ≡ false → byte ≡ 62 → ⊥
  pub comment : subset ≡ true → BeginsWith (codes "<!--") all → ⊥
  pub instruction : subset ≡ true → BeginsWith (codes "<?") all → ⊥

-- the bytes are parts of a declaration, where the subset is open or not, and then the `>` that ends it
pub data ReadsDoctype : Bool → List ℕ → Type 0 where
  -- the `>` outside of the subset
  by_end : {all : List ℕ} → all ≡ 62 ∷ [] → ReadsDoctype false all
  -- a quote is passed through the next one of its kind, in the subset or not
  by_quoted : {subset : Bool} {all : List ℕ} (quote : ℕ) (content rest behind : List ℕ) → IsQuote quote → all ≡ quote ∷ behind →
      IsThrough (quote ∷ []) content rest behind → ReadsDoctype subset rest → ReadsDoctype subset all
  -- in the subset a comment is passed through the first `-->` behind its `<!--`
  by_comment : {all : List ℕ} (content rest behind : List ℕ) → all ≡ codes "<!--" ++ behind →
      IsThrough (codes "-->") content rest behind → ReadsDoctype true rest → ReadsDoctype true all
  -- and a processing instruction through the first `?>` behind its `<?`
  by_instruction : {all : List ℕ} (content rest behind : List ℕ) → all ≡ codes "<?" ++ behind →
      IsThrough (codes "?>") content rest behind → ReadsDoctype true rest → ReadsDoctype true all
  -- `[` opens the subset, and `]` closes it
  by_opening : {subset : Bool} {all : List ℕ} (rest : List ℕ) → all ≡ 91 ∷ rest → ReadsDoctype true rest → ReadsDoctype subset all
  by_closing : {subset : Bool} {all : List ℕ} (rest : List ℕ) → all ≡ 93 ∷ rest → ReadsDoctype false rest → ReadsDoctype subset all
  -- any other byte is passed
  by_other : {subset : Bool} {all : List ℕ} (byte : ℕ) (rest : List ℕ) → all ≡ byte ∷ rest → IsOther subset byte all →
      ReadsDoctype subset rest → ReadsDoctype subset all

-- the bytes behind `<!DOCTYPE` end after `n` exactly where the first `n` read so
abbrev pub DoctypeEnds : Type 0
DoctypeEnds = (bs : List ℕ) (n : ℕ) → (doctype_bytes false 0 bs ≡ Some n) ↔ ((n ≤ length bs) × ReadsDoctype false (take n bs))
