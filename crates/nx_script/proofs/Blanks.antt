-- Blanks at the front of a list of bytes, and the words that stand behind them.
use Rattle.std.proofs.Common.{◌≡◌, ℕ, suc, ◌+◌, ◌-◌, ◌<◌, Bool, true, false, not, cond, eqb, List, [], ◌∷◌, ◌++◌, length, get_or, take, drop, Option, Some, None, refl, sym, ap, subst, ◌∙◌, arith, ◌⊎◌, inl, inr}
use Rattle.std.specs.List.{AllByRecursion, prefix_len, position_or_len, list_all}
use Rattle.std.proofs.lemmas.List.{drop_at, take-append-drop}
use Rattle.std.proofs.lemmas.List.Sums.{prefix_len_passes, prefix_len-le-length, passes_at_first}
use Rattle.std.specs.Str.{IsUtf8, IsCharBoundary}
use Rattle.std.proofs.lemmas.Str.{IsCharBoundary-after_ascii, IsCharBoundary-before_ascii, IsCharBoundary-end}
use Rattle.std.proofs.lemmas.List.Folds.{length-prefix_len}
use Rattle.std.proofs.lemmas.Bool.{cases_lt, eqb-true, eqb-false, eq-eqb, ne_eqb, or_cases, or_left, or_right, and_parts}
use Rattle.nx_script.specs.Grammar.{IsBlank, IsBlanks, IsGap, IsTailOf}
use Rattle.nx_script.specs.Reading.{is_blank, after_blanks, after_gap, ◌>>=◌}

-- ---- tests

-- a choice, and which side it took
pub chosen : {A : Type 0} (test : Bool) (x y z : A) → cond test x y ≡ z → ((test ≡ true) × (x ≡ z)) ⊎ ((test ≡ false) × (y ≡ z))
chosen true x y z e = inl (refl, e)
chosen false x y z e = inr (refl, e)

-- the value of a step that found something
pub found_step : {A B : Type 0} (found : Option A) (more : A → Option B) (y : B) → (found >>= more) ≡ Some y → (x : A) × (found ≡ Some x) × (more x ≡ Some y)
found_step (Some x) more y e = (x, refl, e)
found_step None more y e = absurd cc

-- each byte passes the test
abbrev pub Pass : (ℕ → Bool) → List ℕ → Type 0
Pass p bytes = AllByRecursion (λ b. p b ≡ true) bytes

-- the first byte fails it, if there is one
abbrev pub FirstFails : (ℕ → Bool) → List ℕ → Type 0
FirstFails p [] = Unit {0}
FirstFails p (b ∷ bytes) = p b ≡ false

pub prefix_len_is : (p : ℕ → Bool) (front rest : List ℕ) → Pass p front → FirstFails p rest → prefix_len p (front ++ rest) ≡ length front
prefix_len_is p [] [] h k = refl
prefix_len_is p [] (b ∷ rest) h k = rw k refl
prefix_len_is p (b ∷ front) rest (h, more) k = rw (h, prefix_len_is p front rest more k) (omega arith)

front_passes_cons : (p : ℕ → Bool) (b : ℕ) (bytes : List ℕ) (test : Bool) → p b ≡ test → Pass p (take (prefix_len p bytes) bytes) → Pass p (take (prefix_len p (b ∷ bytes)) (b ∷ bytes))
front_passes_cons p b bytes true e h = let n : 1 + prefix_len p bytes ≡ suc (prefix_len p bytes) = omega arith in rw (e, n) (e, h)
front_passes_cons p b bytes false e h = rw e tt

pub front_passes : (p : ℕ → Bool) (bytes : List ℕ) → Pass p (take (prefix_len p bytes) bytes)
front_passes p [] = tt
front_passes p (b ∷ bytes) = front_passes_cons p b bytes (p b) refl (front_passes p bytes)

rest_fails_cons : (p : ℕ → Bool) (b : ℕ) (bytes : List ℕ) (test : Bool) → p b ≡ test → FirstFails p (drop (prefix_len p bytes) bytes) → FirstFails p (drop (prefix_len p (b ∷ bytes)) (b ∷ bytes))
rest_fails_cons p b bytes true e h = let n : 1 + prefix_len p bytes ≡ suc (prefix_len p bytes) = omega arith in rw (e, n) h
rest_fails_cons p b bytes false e h = rw e e

pub rest_fails : (p : ℕ → Bool) (bytes : List ℕ) → FirstFails p (drop (prefix_len p bytes) bytes)
rest_fails p [] = tt
rest_fails p (b ∷ bytes) = rest_fails_cons p b bytes (p b) refl (rest_fails p bytes)

pub Pass-from_test : (p : ℕ → Bool) (bytes : List ℕ) → list_all p bytes ≡ true → Pass p bytes
Pass-from_test p [] e = tt
Pass-from_test p (b ∷ bytes) e = let parts = and_parts (p b) (list_all p bytes) e in (parts.0, Pass-from_test p bytes parts.1)

-- ---- blanks

pub IsBlank-test : (b : ℕ) → is_blank b ≡ true → IsBlank b
IsBlank-test b e = elim (or_cases (eqb b 32) (eqb b 9) e) [ inl space ↦ inl (eqb-true b 32 space) | inr tab ↦ inr (eqb-true b 9 tab) ]

pub test-IsBlank : (b : ℕ) → IsBlank b → is_blank b ≡ true
test-IsBlank b (inl space) = or_left (eqb b 32) (eqb b 9) (eq-eqb b 32 space)
test-IsBlank b (inr tab) = or_right (eqb b 32) (eqb b 9) (eq-eqb b 9 tab)

pub IsBlank-ascii : (b : ℕ) → IsBlank b → b < 128
IsBlank-ascii b (inl space) = omega arith
IsBlank-ascii b (inr tab) = omega arith

pub IsBlanks-pass : (bytes : List ℕ) → Pass is_blank bytes → IsBlanks bytes
IsBlanks-pass [] h = tt
IsBlanks-pass (b ∷ bytes) h = (IsBlank-test b h.0, IsBlanks-pass bytes h.1)

pub pass-IsBlanks : (bytes : List ℕ) → IsBlanks bytes → Pass is_blank bytes
pass-IsBlanks [] h = tt
pass-IsBlanks (b ∷ bytes) h = (test-IsBlank b h.0, pass-IsBlanks bytes h.1)

pub after_blanks_is : (blanks rest : List ℕ) → IsBlanks blanks → FirstFails is_blank rest → after_blanks (blanks ++ rest) ≡ rest
unfolding after_blanks
after_blanks_is blanks rest h k = rw (prefix_len_is is_blank blanks rest (pass-IsBlanks blanks h) k) (drop_at blanks rest (length blanks) refl)

-- what `after_blanks` left out
pub after_blanks_leaves : (bytes : List ℕ) → (blanks : List ℕ) × (bytes ≡ blanks ++ after_blanks bytes) × IsBlanks blanks × (length blanks ≡ prefix_len is_blank bytes)
unfolding after_blanks
after_blanks_leaves bytes =
    let n = prefix_len is_blank bytes in
    (take n bytes, sym (take-append-drop n bytes), IsBlanks-pass (take n bytes) (front_passes is_blank bytes), length-prefix_len is_blank bytes)

pub after_gap_is : (gap rest : List ℕ) → IsGap gap → FirstFails is_blank rest → after_gap (gap ++ rest) ≡ Some rest
unfolding after_gap
after_gap_is gap rest (some, h) k =
    let count : eqb (prefix_len is_blank (gap ++ rest)) 0 ≡ false = rw (prefix_len_is is_blank gap rest (pass-IsBlanks gap h) k) (ne_eqb (length gap) 0 (omega arith)) in
    rw (count, after_blanks_is gap rest h k) refl

pub after_gap_takes : (bytes rest : List ℕ) → after_gap bytes ≡ Some rest → (gap : List ℕ) × (bytes ≡ gap ++ rest) × IsGap gap
unfolding after_gap
after_gap_takes bytes rest e =
    let n = prefix_len is_blank bytes in
    elim (chosen (eqb n 0) None (Some (after_blanks bytes)) (Some rest) e) [
      | inl (none, h) ↦ absurd cc
      | inr (some, h) ↦
          let parts = after_blanks_leaves bytes in
          let is : after_blanks bytes ≡ rest = cc in
          let long = eqb-false n 0 some in
          (parts.0, parts.1 ∙ ap (λ r. parts.0 ++ r) is, (omega (arith, parts.3), parts.2))
    ]

-- nothing follows, or a blank first
abbrev pub Ends : List ℕ → Type 0
Ends [] = Unit {0}
Ends (b ∷ bytes) = IsBlank b

pub blanks_end : (blanks : List ℕ) → IsBlanks blanks → Ends blanks
blanks_end [] h = tt
blanks_end (b ∷ blanks) h = h.0

pub gap_ends : (gap word rest : List ℕ) → IsGap gap → Ends (gap ++ word ++ rest)
gap_ends [] word rest h = absurd (omega (arith, h.0))
gap_ends (b ∷ gap) word rest h = h.1.0

pub tail_ends : (words : List (List ℕ)) (bytes : List ℕ) → IsTailOf words bytes → Ends bytes
tail_ends [] bytes h = blanks_end bytes h
tail_ends (word ∷ words) bytes (gap, rest, e, g, more) = rw e (gap_ends gap word rest g)

-- a text may be cut behind its blanks
pub blanks_boundary : (line : List ℕ) → IsUtf8 line → 0 < prefix_len is_blank line → IsCharBoundary line (prefix_len is_blank line)
blanks_boundary line text some =
    let n = prefix_len is_blank line in
    let within = prefix_len-le-length is_blank line in
    let last : n - 1 < n = omega arith in
    let b = get_or line (n - 1) 0 in
    let blank : b < 128 = IsBlank-ascii b (IsBlank-test b (prefix_len_passes is_blank line (n - 1) 0 last)) in
    let k : n - 1 + 1 ≡ n = omega arith in
    subst (λ i. IsCharBoundary line i) k (IsCharBoundary-after_ascii line (n - 1) text (omega arith) blank)

-- and in front of the first blank
pub word_boundary : (line : List ℕ) → IsCharBoundary line (position_or_len is_blank line)
word_boundary line =
    let n = position_or_len is_blank line in
    elim (cases_lt n (length line)) [
      | inl lt ↦
          let blank = IsBlank-ascii (get_or line n 0) (IsBlank-test (get_or line n 0) (passes_at_first is_blank line 0 lt)) in
          IsCharBoundary-before_ascii line n lt blank
      | inr ge ↦
          let within = prefix_len-le-length (λ b. not (is_blank b)) line in
          let all : length line ≡ n = omega arith in
          subst (λ i. IsCharBoundary line i) all (IsCharBoundary-end line)
    ]
