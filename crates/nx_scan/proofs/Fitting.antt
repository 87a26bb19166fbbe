-- Tokens lie in their text and end at places.
use Rattle.std.proofs.Common.{◌≡◌, ℕ, zero, suc, ◌+◌, ◌-◌, ◌<◌, ◌≤◌, Bool, true, false, inl, inr, List, [], ◌∷◌, length, drop, get_or, refl, sym, ◌∙◌, ap, subst, arith, length-drop, add-one, zero-add, codes}
use Rattle.std.specs.Prelude.{◌==◌, ◌&&◌, not, if◌then◌else◌, Option, Some, None}
use Rattle.std.specs.Option.{option_map, option_map_or}
use Rattle.std.specs.Str.{IsUtf8, IsCharBoundary}
use Rattle.std.proofs.lemmas.Bool.{cases_Bool, cases_lt, and_parts, eqb-true}
use Rattle.std.proofs.lemmas.List.{drop-drop, get_or-drop}
use Rattle.std.proofs.lemmas.Str.{IsCharBoundary-end, IsCharBoundary-before_ascii, IsCharBoundary-after_ascii}
use Rattle.nx_base.specs.Tokens.{Cut, cut_as, begins_with, bytes_before, bytes_up_to, closed, unclosed, piece, in_subset, doctype_bytes, doctype, begins_declaration, instruction, bad_rest}
use Rattle.nx_base.specs.declared.token.TokenKind.{TokenKind}
use Rattle.nx_base.specs.declared.token.TokenKind.TheVariants as kinds
use Rattle.std.proofs.Math.Bool.{and-true}
use Rattle.nx_scan.proofs.Endings.{bad-close, bad-open}
use Rattle.nx_scan.proofs.Marks.{begins_with-fits, mark_reads}

-- so many bytes of the rest of a text are a token: at least one, and a place behind them
pub record FitsIn (rest : List ℕ) (len : ℕ) : Type 0 where
  pub some : 0 < len
  pub border : IsCharBoundary rest len

-- the choice of a row
pub if_cases : (P : Cut → Type 0) (b : Bool) (x y : Cut) → (b ≡ true → P x) → (b ≡ false → P y) → P (if b then x else y)
if_cases P true x y f g = f refl
if_cases P false x y f g = g refl

-- the whole rest
whole_rest : (rest : List ℕ) → 0 < length rest → FitsIn rest (length rest)
whole_rest rest some = record { some = some; border = IsCharBoundary-end rest }

-- a byte that is found
pub up_to-stands : (byte : ℕ) (rest : List ℕ) → (bytes_up_to byte rest ≤ length rest) × (bytes_up_to byte rest < length rest → get_or rest (bytes_up_to byte rest) 0 ≡ byte)
unfolding bytes_up_to
up_to-stands byte [] = (omega arith, λ h. absurd (omega arith))
up_to-stands byte (b ∷ rest) =
    let further = up_to-stands byte rest in
    elim (cases_Bool (b == byte)) [
      | inl e ↦ rw e (omega arith, λ h. eqb-true b byte e)
      | inr e ↦ rw e (omega (arith, further.0), λ h. ap (λ n. get_or (b ∷ rest) n 0) (add-one (bytes_up_to byte rest)) ∙ further.1 (omega arith))
    ]

module _ (byte : ℕ) (text : List ℕ) (from found : ℕ) (inside : from ≤ length text) (is : found ≡ from + bytes_up_to byte (drop from text)) where
  pub found-within : found ≤ length text
  found-within = omega (arith, is, inside, (up_to-stands byte (drop from text)).0, length-drop from text)

  pub found-stands : found < length text → get_or text found 0 ≡ byte
  found-stands within =
      ap (λ n. get_or text n 0) is ∙ sym (get_or-drop from text (bytes_up_to byte (drop from text)) 0)
      ∙ (up_to-stands byte (drop from text)).1 (omega (arith, is, within, length-drop from text))

-- a mark that is found
before-further : (mark : List ℕ) (b : ℕ) (rest : List ℕ) (n : ℕ) → ((k : ℕ) → bytes_before mark rest ≡ Some k → begins_with mark (drop k rest) ≡ true) →
    (found : Option ℕ) → bytes_before mark rest ≡ found → option_map (λ k. k + 1) found ≡ Some n → begins_with mark (drop n (b ∷ rest)) ≡ true
before-further mark b rest n stands None is f = let bad : None ≡ Some n = f in cc
before-further mark b rest n stands (Some k) is f =
    let there : Some (k + 1) ≡ Some n = f in
    let same : k + 1 ≡ n = cc in
    subst (λ j. begins_with mark (drop j (b ∷ rest)) ≡ true) (sym (add-one k) ∙ same) (stands k is)

pub before-stands : (mark rest : List ℕ) (n : ℕ) → bytes_before mark rest ≡ Some n → begins_with mark (drop n rest) ≡ true
unfolding bytes_before
before-stands mark [] n e = cc
before-stands mark (b ∷ rest) n e =
    elim (cases_Bool (begins_with mark (b ∷ rest))) [
      | inl h ↦
          (let here : Some 0 ≡ Some n = (rw h at e) in
          let same : 0 ≡ n = cc in
          subst (λ k. begins_with mark (drop k (b ∷ rest)) ≡ true) same h)
      | inr h ↦
          (let further : option_map (λ k. k + 1) (bytes_before mark rest) ≡ Some n = (rw h at e) in
          before-further mark b rest n (before-stands mark rest) (bytes_before mark rest) refl further)
    ]

-- behind a byte below 128
behind : (rest : List ℕ) (len byte : ℕ) → IsUtf8 rest → 0 < len → len ≤ length rest → get_or rest (len - 1) 0 ≡ byte → byte < 128 → FitsIn rest len
behind rest len byte utf8 some within is ascii =
    record {
      some = some;
      border = subst (λ n. IsCharBoundary rest n) (let e : len - 1 + 1 ≡ len = omega arith in e)
          (IsCharBoundary-after_ascii rest (len - 1) utf8 (omega arith) (omega (arith, is)));
    }

-- behind a mark that ends with `>`
behind_mark : (mark rest : List ℕ) (k : ℕ) → IsUtf8 rest → begins_with mark (drop k rest) ≡ true → 0 < length mark → get_or mark (length mark - 1) 0 ≡ 62 →
    FitsIn rest (k + length mark)
behind_mark mark rest k utf8 h some last =
    let within : k + length mark ≤ length rest = omega (arith, begins_with-fits mark (drop k rest) h, length-drop k rest) in
    behind rest (k + length mark) 62 utf8 (omega arith) within
    (ap (λ n. get_or rest n 0) (let e : k + length mark - 1 ≡ k + (length mark - 1) = omega arith in e)
    ∙ sym (get_or-drop k rest (length mark - 1) 0) ∙ mark_reads mark (drop k rest) (length mark - 1) h (omega arith) ∙ last)
    (omega arith)

-- a token that a mark ends
pub closed-fits : (kind : TokenKind) (mark rest : List ℕ) (skip : ℕ) → IsUtf8 rest → 0 < length rest → 0 < length mark → get_or mark (length mark - 1) 0 ≡ 62 →
    FitsIn rest (closed kind mark skip rest).len
unfolding closed
closed-fits kind mark rest skip utf8 some some_mark last = on (bytes_before mark (drop skip rest)) refl
  where
    on : (found : Option ℕ) → bytes_before mark (drop skip rest) ≡ found →
        FitsIn rest (option_map_or (λ n. cut_as kind (skip + n + length mark)) (bytes_before mark (drop skip rest)) (unclosed rest)).len
    on None e = rw e (whole_rest rest some)
    on (Some n) e =
        rw e
        (behind_mark mark rest (skip + n) utf8
        (ap (begins_with mark) (sym (drop-drop n skip rest)) ∙ before-stands mark (drop skip rest) n e) some_mark last)

-- where a document type declaration ends
pub record EndsDoctype (rest : List ℕ) (n : ℕ) : Type 0 where
  pub some : 0 < n
  pub within : n ≤ length rest
  pub close : get_or rest (n - 1) 0 ≡ 62

doctype-next : (b : ℕ) (bs : List ℕ) (found : Option ℕ) (n : ℕ) → ((m : ℕ) → found ≡ Some m → EndsDoctype bs m) →
    option_map (λ m. m + 1) found ≡ Some n → EndsDoctype (b ∷ bs) n
doctype-next b bs None n ends e = let bad : None ≡ Some n = e in absurd (cc)
doctype-next b bs (Some m) n ends e =
    let there : Some (m + 1) ≡ Some n = e in
    let same : m + 1 ≡ n = cc in
    let end = ends m refl in
    let some = end.some in
    record {
      some = omega arith;
      within = omega (arith, end.within);
      close = ap (λ k. get_or (b ∷ bs) k 0) (let k : n - 1 ≡ suc (m - 1) = omega arith in k) ∙ end.close;
    }

doctype-further : (subset : Bool) (b : ℕ) (bs : List ℕ) (n : ℕ) → ((s : Bool) (p m : ℕ) → doctype_bytes s p bs ≡ Some m → EndsDoctype bs m) →
    (found : Option ℕ) → option_map_or (λ p. option_map (λ m. m + 1) (doctype_bytes (in_subset subset b) (p - 1) bs)) found None ≡ Some n → EndsDoctype (b ∷ bs) n
doctype-further subset b bs n ends None f = let bad : None ≡ Some n = f in absurd (cc)
doctype-further subset b bs n ends (Some p) f =
    doctype-next b bs (doctype_bytes (in_subset subset b) (p - 1) bs) n (λ m. ends (in_subset subset b) (p - 1) m) f

doctype-here : (b : ℕ) (bs : List ℕ) (n : ℕ) → b ≡ 62 → Some 1 ≡ Some n → EndsDoctype (b ∷ bs) n
doctype-here b bs n close e =
    let same : 1 ≡ n = cc in
    record {
      some = omega arith;
      within = omega arith;
      close = ap (λ k. get_or (b ∷ bs) k 0) (let k : n - 1 ≡ 0 = omega arith in k) ∙ close;
    }

pub doctype-ends : (subset : Bool) (passed : ℕ) (rest : List ℕ) (n : ℕ) → doctype_bytes subset passed rest ≡ Some n → EndsDoctype rest n
unfolding doctype_bytes
doctype-ends subset passed [] n e = let bad : None ≡ Some n = e in absurd (cc)
doctype-ends subset (suc passed) (b ∷ bs) n e = doctype-next b bs (doctype_bytes subset passed bs) n (λ m. doctype-ends subset passed bs m) e
doctype-ends subset zero (b ∷ bs) n e =
    elim (cases_Bool (b == 62 && not subset)) [
      | inl h ↦ doctype-here b bs n (eqb-true b 62 (and_parts (b == 62) (not subset) h).0) (rw h at e)
      | inr h ↦ doctype-further subset b bs n (λ s p m. doctype-ends s p bs m) (piece subset (b ∷ bs)) (rw h at e)
    ]

pub doctype-fits : (rest : List ℕ) → IsUtf8 rest → 0 < length rest → FitsIn rest (doctype rest).len
unfolding doctype
doctype-fits rest utf8 some = on (doctype_bytes false 0 (drop 9 rest)) refl
  where
    on : (found : Option ℕ) → doctype_bytes false 0 (drop 9 rest) ≡ found → FitsIn rest (option_map_or (λ n. cut_as kinds.Doctype (9 + n)) (doctype_bytes false 0 (drop 9 rest)) (unclosed rest)).len
    on None e = rw e (whole_rest rest some)
    on (Some n) e =
        let end = doctype-ends false 0 (drop 9 rest) n e in
        let within : 9 + n ≤ length rest = omega (arith, end.within, end.some, length-drop 9 rest) in
        let some_n = end.some in
        rw e
        (behind rest (9 + n) 62 utf8 (omega arith) within
        (ap (λ k. get_or rest k 0) (let k : 9 + n - 1 ≡ 9 + (n - 1) = omega arith in k) ∙ sym (get_or-drop 9 rest (n - 1) 0) ∙ end.close) (omega arith))

pub instruction-fits : (rest : List ℕ) → IsUtf8 rest → 0 < length rest → FitsIn rest (instruction rest).len
unfolding instruction
instruction-fits rest utf8 some =
    if_cases (λ c. FitsIn rest c.len) (begins_declaration rest) (closed kinds.Decl (codes "?>") 6 rest) (closed kinds.Pi (codes "?>") 2 rest)
    (λ h. closed-fits kinds.Decl (codes "?>") rest 6 utf8 some (omega arith) refl)
    (λ h. closed-fits kinds.Pi (codes "?>") rest 2 utf8 some (omega arith) refl)

up_to-some : (rest : List ℕ) → 0 < length rest → begins_with (codes "<") rest ≡ false → 0 < bytes_up_to 60 rest
unfolding bytes_up_to begins_with
up_to-some [] some h = absurd (omega arith)
up_to-some (b ∷ rest) some h =
    let apart : (b == 60) ≡ false = sym (and-true (b == 60)) ∙ h in
    rw apart (omega arith)

-- character data
pub text-fits : (rest : List ℕ) → IsUtf8 rest → 0 < length rest → begins_with (codes "<") rest ≡ false → FitsIn rest (bytes_up_to 60 rest)
text-fits rest utf8 some h =
    let found = up_to-stands 60 rest in
    record {
      some = up_to-some rest some h;
      border = elim (cases_lt (bytes_up_to 60 rest) (length rest)) [
        | inl within ↦ IsCharBoundary-before_ascii rest (bytes_up_to 60 rest) within (omega (arith, found.1 within))
        | inr past ↦ subst (λ n. IsCharBoundary rest n) (let e : length rest ≡ bytes_up_to 60 rest = omega (arith, found.0) in e) (IsCharBoundary-end rest)
      ];
    }

-- how far a Bad token goes on
pub bad_rest-border : (left : List ℕ) → IsUtf8 left → IsCharBoundary left (bad_rest left)
bad_rest-border left utf8 =
    let less = up_to-stands 60 left in
    let greater = up_to-stands 62 left in
    elim (cases_lt (bytes_up_to 62 left) (bytes_up_to 60 left)) [
      | inl before ↦
          (let e = bad-close left 0 (bytes_up_to 60 left) (bytes_up_to 62 left) utf8 (sym (zero-add (bytes_up_to 60 left)))
          (sym (zero-add (bytes_up_to 62 left))) less.0 before (greater.1 (omega (arith, less.0))) in
          subst (λ n. IsCharBoundary left n) (e.place ∙ zero-add (bad_rest left)) e.border)
      | inr before ↦
          (let e = bad-open left 0 (bytes_up_to 60 left) (bytes_up_to 62 left) utf8 (sym (zero-add (bytes_up_to 60 left)))
          (sym (zero-add (bytes_up_to 62 left))) less.0 before less.1 in
          subst (λ n. IsCharBoundary left n) (e.place ∙ zero-add (bad_rest left)) e.border)
    ]
