-- Two texts that are the same up to a place behind a tag.
use Rattle.std.proofs.Common.{◌≡◌, ℕ, ◌+◌, ◌-◌, ◌<◌, ◌≤◌, true, List, [], ◌∷◌, ◌++◌, length, take, drop, get_or, refl, sym, ◌∙◌, ap, subst, arith, length-append, append_assoc}
use Rattle.std.specs.Str.{IsUtf8, IsCharBoundary}
use lib.Utf8.{encode, encodes, scalar, scalars}
use Rattle.std.proofs.lemmas.Bool.{and_parts}
use Rattle.std.proofs.lemmas.List.{take-append-drop, take_at, length-take-le, get_or-append-add}
use Rattle.std.proofs.lemmas.Str.{IsUtf8-take, IsUtf8-past_char, encode_same}
use Rattle.nx_base.specs.Tokens.{Cut, cut_as, bad_rest, tag}
use Rattle.nx_base.specs.declared.token.TokenKind.TheVariants as kinds
use Rattle.nx_scan.specs.Tag.{left_of, later}
use Rattle.nx_scan.specs.declared.tag.TagState.{TagState}
use Rattle.nx_scan.specs.declared.tag.TagState.TheVariants as seen
use Rattle.nx_scan.proofs.Stable.{bad_rest-same}
use Rattle.nx_scan.proofs.TagEnds.{IsOpen}
use Rattle.nx_scan.proofs.Walking.{Status, is_open, is_whole, is_lost, status, Walk, on, off, walk, tag-never}

-- two texts that are the same through a character
pub record SameFirst (c : ℕ) (more other : List ℕ) (m : ℕ) : Type 0 where
  pub rest : List ℕ
  pub spelled : other ≡ encode c ++ rest
  pub utf8 : IsUtf8 rest
  pub within : length (encode c) ≤ m
  pub same : take (m - length (encode c)) rest ≡ take (m - length (encode c)) more

-- some bytes of UTF-8 begin with a character
pub first-character : (bs : List ℕ) → IsUtf8 bs → 0 < length bs → (d : ℕ) × (rest : List ℕ) × (bs ≡ encode d ++ rest)
first-character bs utf8 some = on utf8.0 utf8.1.1
  where
    on : (cs : List ℕ) → encodes cs ≡ bs → (d : ℕ) × (rest : List ℕ) × (bs ≡ encode d ++ rest)
    on [] e = let none : 0 ≡ length bs = ap length e in absurd (omega arith)
    on (d ∷ ds) e = (d, encodes ds, sym e)

pub same-first : (c : ℕ) (more other : List ℕ) (m : ℕ) → IsUtf8 (encode c ++ more) → IsUtf8 other → 0 < m → IsCharBoundary (encode c ++ more) m →
    take m other ≡ take m (encode c ++ more) → SameFirst c more other m
same-first c more other m utf8 other_utf8 some border same =
    let text = encode c ++ more in
    let len : length (take m text) ≡ m = length-take-le m text border.0 in
    let first = first-character (take m text) (IsUtf8-take text m utf8 border) (omega arith) in
    let d = first.0 in
    let known = first.1 in
    let whole : text ≡ encode d ++ (known ++ drop m text) =
    sym (take-append-drop m text) ∙ ap (λ xs. xs ++ drop m text) first.2 ∙ append_assoc (encode d) known (drop m text) in
    let both = encode_same c d more (known ++ drop m text) whole in
    let there : other ≡ encode c ++ (known ++ drop m other) =
    sym (take-append-drop m other) ∙ ap (λ xs. xs ++ drop m other) (same ∙ first.2) ∙ append_assoc (encode d) known (drop m other)
    ∙ ap (λ x. encode x ++ (known ++ drop m other)) (sym both.0) in
    let parts : length (encode d) + length known ≡ m = sym (length-append (encode d) known) ∙ ap length (sym first.2) ∙ len in
    let parts_c : length (encode c) + length known ≡ m = ap (λ x. length (encode x) + length known) both.0 ∙ parts in
    let left : m - length (encode c) ≡ length known = omega arith in
    record {
      rest = known ++ drop m other;
      spelled = there;
      utf8 = IsUtf8-past_char other (known ++ drop m other) c other_utf8 there;
      within = omega arith;
      same =
          ap (λ n. take n (known ++ drop m other)) left ∙ take_at known (drop m other) (length known) refl
          ∙ sym (ap (λ n. take n more) left ∙ ap (take (length known)) both.1 ∙ take_at known (drop m text) (length known) refl);
    }

-- a place behind a character is a place of what follows it
pub border-behind : (front more : List ℕ) (m : ℕ) → length front ≤ m → IsCharBoundary (front ++ more) m → IsCharBoundary more (m - length front)
border-behind front more m le border =
    let place : length front + (m - length front) ≡ m = omega arith in
    let read : get_or (front ++ more) m 0 ≡ get_or more (m - length front) 0 =
    ap (λ n. get_or (front ++ more) n 0) (sym place) ∙ get_or-append-add front more (m - length front) 0 in
    let fits = border.0 in (
      omega (arith, length-append front more),
      λ lt high. (let far = border.1 (omega (arith, length-append front more)) (omega arith) in omega arith),
    )

-- a tag, or what stands in its place
module _ (c : ℕ) (cs : List ℕ) (other : List ℕ) (m : ℕ) (u : scalars (c ∷ cs) ≡ true) (other_utf8 : IsUtf8 other)
    (border : IsCharBoundary (encodes (c ∷ cs)) m) (same : take m other ≡ take m (encodes (c ∷ cs))) (some : 0 < m) where
  walked-same : (read : TagState) → (tag (left_of read) (encodes (c ∷ cs))).len < m →
      ((behind : TagState) (rest : List ℕ) (k : ℕ) → IsUtf8 rest → IsCharBoundary (encodes cs) k → take k rest ≡ take k (encodes cs) →
      (tag (left_of behind) (encodes cs)).len < k → tag (left_of behind) rest ≡ tag (left_of behind) (encodes cs)) →
      Walk read c → tag (left_of read) other ≡ tag (left_of read) (encodes (c ∷ cs))
  walked-same read lt further (on behind is) =
      let utf8 : IsUtf8 (encode c ++ encodes cs) = (c ∷ cs, (u, refl)) in
      let first = same-first c (encodes cs) other m utf8 other_utf8 some border same in
      let here : tag (left_of read) (encode c ++ encodes cs) ≡ later (length (encode c)) (tag (left_of behind) (encodes cs)) = is (encodes cs) utf8 in
      let len : (tag (left_of read) (encode c ++ encodes cs)).len ≡ length (encode c) + (tag (left_of behind) (encodes cs)).len = ap (λ (t : Cut). t.len) here in
      let in_first = first.within in
      ap (tag (left_of read)) first.spelled
      ∙ is first.rest (subst (λ xs. IsUtf8 xs) first.spelled other_utf8)
      ∙ ap (later (length (encode c)))
      (further behind first.rest (m - length (encode c)) first.utf8 (border-behind (encode c) (encodes cs) m first.within border) first.same (omega arith))
      ∙ sym here
  walked-same read lt further (off is) =
      let utf8 : IsUtf8 (encode c ++ encodes cs) = (c ∷ cs, (u, refl)) in
      let first = same-first c (encodes cs) other m utf8 other_utf8 some border same in
      let here : tag (left_of read) (encode c ++ encodes cs) ≡ cut_as kinds.Bad (bad_rest (encode c ++ encodes cs)) = is (encodes cs) utf8 in
      let len : (tag (left_of read) (encode c ++ encodes cs)).len ≡ bad_rest (encode c ++ encodes cs) = ap (λ (t : Cut). t.len) here in
      ap (tag (left_of read)) first.spelled
      ∙ is first.rest (subst (λ xs. IsUtf8 xs) first.spelled other_utf8)
      ∙ ap (λ xs. cut_as kinds.Bad (bad_rest xs)) (sym first.spelled)
      ∙ ap (cut_as kinds.Bad) (bad_rest-same (encode c ++ encodes cs) other m same border.0 (omega arith))
      ∙ sym here

tag-same_by : (cs : List ℕ) (read : TagState) (other : List ℕ) (m : ℕ) → IsCharBoundary (encodes cs) m → take m other ≡ take m (encodes cs) →
    (tag (left_of read) (encodes cs)).len < m → (IsOpen read → tag (left_of read) other ≡ tag (left_of read) (encodes cs)) → Status read →
    tag (left_of read) other ≡ tag (left_of read) (encodes cs)
tag-same_by cs read other m border same lt further (is_open o) = further o
tag-same_by cs read other m border same lt further (is_whole kind w) = w.cut other ∙ sym (w.cut (encodes cs))
tag-same_by cs seen.Lost other m border same lt further is_lost =
    let len : (tag (left_of seen.Lost) (encodes cs)).len ≡ bad_rest (encodes cs) = ap (λ (t : Cut). t.len) (tag-never (encodes cs)) in
    tag-never other ∙ ap (cut_as kinds.Bad) (bad_rest-same (encodes cs) other m same border.0 (omega arith)) ∙ sym (tag-never (encodes cs))

pub tag-same : (cs : List ℕ) (read : TagState) (other : List ℕ) (m : ℕ) → scalars cs ≡ true → IsUtf8 other → IsCharBoundary (encodes cs) m →
    take m other ≡ take m (encodes cs) → (tag (left_of read) (encodes cs)).len < m → tag (left_of read) other ≡ tag (left_of read) (encodes cs)
tag-same [] read other m u other_utf8 border same lt = let fits = border.0 in absurd (omega arith)
tag-same (c ∷ cs) read other m u other_utf8 border same lt =
    tag-same_by (c ∷ cs) read other m border same lt
    (λ o. walked-same c cs other m u other_utf8 border same (omega arith) read lt
    (λ behind rest k rest_utf8 rest_border rest_same rest_lt.
    tag-same cs behind rest k (and_parts (scalar c) (scalars cs) u).1 rest_utf8 rest_border rest_same rest_lt)
    (walk read c o))
    (status read)
