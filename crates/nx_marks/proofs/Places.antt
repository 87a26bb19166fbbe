-- Places and tokens before and behind an edit.
use Rattle.std.proofs.Common.{◌≡◌, ℕ, ◌+◌, ◌-◌, ◌<◌, ◌≤◌, ◌==◌, Bool, true, false, nat_lt, List, [], ◌∷◌, ◌++◌, length, take, drop, get_or, refl, sym, ap, subst, ◌∙◌, arith, append_assoc, length-drop}
use Rattle.std.specs.Prelude.{IsUtf8}
use Rattle.std.proofs.lemmas.Bool.Decides.{nat_tests}
use Rattle.std.proofs.lemmas.Str.{IsUtf8-append, IsUtf8-take, IsUtf8-drop}
use Rattle.std.proofs.lemmas.List.{length-append, length-take-le, drop-drop, get_or-drop, take_at, drop_at}
use Rattle.nx_scan.proofs.Themselves.{edit-leaves}
use Rattle.nx_scan.proofs.Stable.{byte-same}
use Rattle.nx_scan.proofs.Every.{cut-is_token}
use Rattle.nx_base.specs.Text.{IsPlace, edited}
use Rattle.nx_base.specs.Tokens.{Cut, cut, end_of, first_token}
use Rattle.nx_base.specs.Rules.{Lexeme, lexeme_of}
use Rattle.nx_base.specs.Running.{CutsTo}
use Rattle.nx_marks.specs.Editing.{place_after, stays, is_apart}

pub below : (a b : ℕ) → nat_lt a b ≡ true → a < b
below a b h = grind (arith, nat_tests)

pub above : (a b : ℕ) → nat_lt a b ≡ false → b ≤ a
above a b h = grind (arith, nat_tests)

pub is_below : (a b : ℕ) → a < b → nat_lt a b ≡ true
is_below a b h = grind (arith, nat_tests)

pub is_above : (a b : ℕ) → b ≤ a → nat_lt a b ≡ false
is_above a b h = grind (arith, nat_tests)

pub moved-before : (from to added p : ℕ) → p < from → place_after from to added p ≡ p
moved-before from to added p h = rw (is_below p from h) refl

pub moved-behind : (from to added p : ℕ) → from ≤ p → place_after from to added p ≡ from + added + (p - to)
moved-behind from to added p h = rw (is_above p from h) refl

pub moved-grows : (from to added p q : ℕ) → from ≤ to → p ≤ q → place_after from to added p ≤ place_after from to added q
moved-grows from to added p q o h = by (nat_lt p from) refl (nat_lt q from) refl
  where
    by : (a : Bool) → nat_lt p from ≡ a → (b : Bool) → nat_lt q from ≡ b → place_after from to added p ≤ place_after from to added q
    by true e true f = rw (e, f) h
    by true e false f = let one = below p from e in rw (e, f) (omega arith)
    by false e true f = let one = above p from e in let two = below q from f in absurd (omega arith)
    by false e false f = rw (e, f) (omega arith)

-- the segment lies before the edit, or behind it
pub data Apart (from to p len : ℕ) : Type 0 where
  before : p + len < from → Apart from to p len
  behind : to < p → Apart from to p len

pub apart : (from to p len : ℕ) → is_apart from to p len ≡ true → Apart from to p len
apart from to p len h = by (nat_lt (p + len) from) refl (nat_lt to p) refl
  where
    by : (a : Bool) → nat_lt (p + len) from ≡ a → (b : Bool) → nat_lt to p ≡ b → Apart from to p len
    by true e b f = before (below (p + len) from e)
    by false e true f = behind (below to p f)
    by false e false f = absurd (let g : false ≡ true = rw (e, f) at h in cc)

pub stays-before : (from to p : ℕ) → p < from → stays from to p ≡ true
stays-before from to p h = rw (is_below p from h) refl

pub stays-behind : (from to p : ℕ) → to < p → stays from to p ≡ true
stays-behind from to p h = by (nat_lt p from) refl
  where
    by : (a : Bool) → nat_lt p from ≡ a → stays from to p ≡ true
    by true e = rw e refl
    by false e = rw (e, is_below to p h) refl

pub reaches : (t : List ℕ) (p q : ℕ) (ks : List Lexeme) → CutsTo t p ks q → p ≤ q
reaches t p q [] h = omega arith
reaches t p q (k ∷ ks) h = let e = reaches t (p + length k.bytes) q ks h.1.1.1 in omega arith

-- how many bytes these tokens have
abbrev pub size : List Lexeme → ℕ
size [] = 0
size (k ∷ ks) = length k.bytes + size ks

pub cuts-size : (t : List ℕ) (p q : ℕ) (ks : List Lexeme) → CutsTo t p ks q → q ≡ p + size ks
cuts-size t p q [] h = omega arith
cuts-size t p q (k ∷ ks) h = let e = cuts-size t (p + length k.bytes) q ks h.1.1.1 in omega arith

-- a token of at least one byte that ends at a place
pub record IsNext (t : List ℕ) (at : ℕ) (k : Lexeme) : Type 0 where
  pub end : end_of (cut t at) ≡ at + length k.bytes
  pub some : 0 < length k.bytes
  pub fits : at + length k.bytes ≤ length t
  pub border : IsPlace t (at + length k.bytes)

pub next : (t : List ℕ) (at : ℕ) (k : Lexeme) → IsUtf8 t → IsPlace t at → at < length t → k ≡ lexeme_of (cut t at) → IsNext t at k
next t at k utf8 place within is =
    let P : Lexeme → Type 0 = λ x. IsNext t at x in
    let here = cut-is_token t at utf8 place within in
    let same : end_of (cut t at) ≡ at + length (cut t at).bytes = ap (λ n. n + length (cut t at).bytes) here.from in
    let Q : ℕ → Type 0 = λ n. IsPlace t n in
    let border = subst Q same here.border in
    subst P (sym is) (record { end = same; some = here.some; fits = border.0; border = border })

-- the tokens end at a place
pub cuts-end : (t : List ℕ) (p q : ℕ) (ks : List Lexeme) → IsUtf8 t → IsPlace t p → CutsTo t p ks q → IsPlace t q
cuts-end t p q [] utf8 place h = let P : ℕ → Type 0 = λ n. IsPlace t n in subst P h place
cuts-end t p q (k ∷ ks) utf8 place h =
    cuts-end t (p + length k.bytes) q ks utf8 (next t p k utf8 h.0 h.1.0 h.1.1.0).border h.1.1.1

get-drop : (xs : List ℕ) (p : ℕ) → get_or xs p 0 ≡ get_or (drop p xs) 0 0
get-drop xs p = let e : p + 0 ≡ p = omega arith in sym (get_or-drop p xs 0 0 ∙ ap (λ n. get_or xs n 0) e)

-- a place behind which the texts are alike
pub place-alike : (t u : List ℕ) (p e : ℕ) → drop p t ≡ drop e u → e ≤ length u → IsPlace t p → IsPlace u e
place-alike t u p e same fits h = (
  fits,
  λ within high.
      (let lens = ap length same in
      let byte : get_or u e 0 ≡ get_or t p 0 = get-drop u e ∙ ap (λ xs. get_or xs 0 0) (sym same) ∙ sym (get-drop t p) in
      let far = h.1 (omega (arith, lens, length-drop p t, length-drop e u)) (omega arith) in omega arith),
)

pub cut-alike : (t u : List ℕ) (p e : ℕ) → drop p t ≡ drop e u → 0 < p → 0 < e → lexeme_of (cut u e) ≡ lexeme_of (cut t p)
unfolding cut
cut-alike t u p e same a b =
    ap (λ s. lexeme_at (first_token s (drop e u)) (drop e u)) (not_start e b ∙ sym (not_start p a))
    ∙ ap (λ xs. lexeme_at (first_token (p == 0) xs) xs) (sym same)
  where
    not_start : (n : ℕ) → 0 < n → (n == 0) ≡ false
    not_start n h = grind (arith, nat_tests)

    lexeme_at : Cut → List ℕ → Lexeme
    lexeme_at c xs = record { kind = c.kind; bytes = take c.len xs }

-- tokens behind an edit stay
pub cuts-alike : (t u : List ℕ) (p e q : ℕ) (ks : List Lexeme) → drop p t ≡ drop e u → 0 < p → 0 < e → CutsTo t p ks q → CutsTo u e ks (e + size ks)
cuts-alike t u p e q [] same a b h = omega arith
cuts-alike t u p e q (k ∷ ks) same a b h =
    let lens : length (drop p t) ≡ length (drop e u) = ap length same in
    let in_u : e < length u = omega (arith, length-drop p t, length-drop e u) in
    let n : ℕ = length k.bytes in
    let rest : drop (p + n) t ≡ drop (e + n) u = sym (drop-drop n p t) ∙ ap (drop n) same ∙ drop-drop n e u in
    let at : e + n + size ks ≡ e + (n + size ks) = omega arith in
    let P : ℕ → Type 0 = λ x. CutsTo u (e + n) ks x in
    (place-alike t u p e same (omega arith) h.0, (in_u, (h.1.1.0 ∙ sym (cut-alike t u p e same a b), subst P at (cuts-alike t u (p + n) (e + n) q ks rest (omega arith) (omega arith) h.1.1.1))))

module _ (t added : List ℕ) (from to : ℕ) (utf8 : IsUtf8 t) (added_utf8 : IsUtf8 added) (f : IsPlace t from) (o : IsPlace t to) (le : from ≤ to) where
  pub edited-utf8 : IsUtf8 (edited t from to added)
  edited-utf8 = IsUtf8-append (take from t ++ added) (drop to t) (IsUtf8-append (take from t) added (IsUtf8-take t from utf8 f) added_utf8) (IsUtf8-drop t to utf8 o)

  pub edited-length : length (edited t from to added) ≡ from + length added + (length t - to)
  edited-length =
      let one = length-append (take from t ++ added) (drop to t) in
      let two = length-append (take from t) added in
      let three = length-take-le from t f.0 in
      let four = length-drop to t in
      omega arith

  same-front : take from (edited t from to added) ≡ take from t
  same-front = ap (take from) (append_assoc (take from t) added (drop to t)) ∙ take_at (take from t) (added ++ drop to t) from (length-take-le from t f.0)

  same-behind : (p : ℕ) → to ≤ p → drop p t ≡ drop (from + length added + (p - to)) (edited t from to added)
  same-behind p h =
      let a : ℕ = from + length added in
      let n : ℕ = p - to in
      let front : List ℕ = take from t ++ added in
      let len : length front ≡ a = length-append (take from t) added ∙ ap (λ m. m + length added) (length-take-le from t f.0) in
      let there : to + n ≡ p = omega arith in
      sym (sym (drop-drop n a (front ++ drop to t)) ∙ ap (drop n) (drop_at front (drop to t) a len) ∙ drop-drop n to t ∙ ap (λ m. drop m t) there)

  pub place-before : (p : ℕ) → p < from → IsPlace t p → IsPlace (edited t from to added) p
  place-before p h place =
      let n = edited-length in (
        omega arith,
        λ within high.
            (let read = byte-same p from t (edited t from to added) h same-front in
            let far = place.1 (omega (arith, f.0)) (omega arith) in omega arith),
      )

  -- tokens before an edit stay
  pub cuts-before : (p q : ℕ) (ks : List Lexeme) → q < from → CutsTo t p ks q → CutsTo (edited t from to added) p ks q
  cuts-before p q [] lt h = h
  cuts-before p q (k ∷ ks) lt h =
      let ends = reaches t (p + length k.bytes) q ks h.1.1.1 in
      let n = next t p k utf8 h.0 h.1.0 h.1.1.0 in
      let same = edit-leaves t added from to p utf8 added_utf8 f o le h.0 h.1.0 (let e = n.end in omega arith) in
      let len = edited-length in
      (place-before p (omega arith) h.0, (omega arith, (h.1.1.0 ∙ ap lexeme_of (sym same), cuts-before (p + length k.bytes) q ks lt h.1.1.1)))

  -- tokens behind an edit stay
  pub cuts-behind : (p q : ℕ) (ks : List Lexeme) → to < p → CutsTo t p ks q → CutsTo (edited t from to added) (place_after from to (length added) p) ks (place_after from to (length added) p + size ks)
  cuts-behind p q ks h cuts =
      let e : place_after from to (length added) p ≡ from + length added + (p - to) = moved-behind from to (length added) p (omega arith) in
      rw e (cuts-alike t (edited t from to added) p (from + length added + (p - to)) q ks (same-behind p (omega arith)) (omega arith) (omega arith) cuts)
