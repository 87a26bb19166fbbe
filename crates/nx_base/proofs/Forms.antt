-- What is left of a form behind a character spells what may follow it.
use Rattle.std.proofs.Common.{◌≡◌, ◌↔◌, ℕ, Bool, true, false, ◌||◌, inl, inr, List, [], ◌∷◌, ◌++◌, refl, sym, ◌∙◌, ap, subst, arith}
use Rattle.std.specs.Prelude.{if◌then◌else◌, ◌==◌}
use Rattle.std.specs.List.{AllByRecursion}
use Rattle.std.specs.Str.{all_scalars}
use lib.Utf8.{scalar}
use Rattle.std.proofs.lemmas.Bool.{and_parts, and_from, or_cases, cases_Bool, cases_eq, ne_eqb, eqb-true, eq-eqb}
use Rattle.nx_base.specs.Characters.{is_space, is_name_start, is_name_char}
use Rattle.nx_base.specs.Form.{Set, space, name_start, name_char, only, other_than, has, has_some, Form, never, nothing, one, seq, alt, many, joined, Spells, may_end, is_possible, followed, or_else, either, after, spells, begins}

-- parts that spell nothing fall away
followed-to : (a b : Form) (cs : List ℕ) → Spells (seq a b) cs → Spells (followed a b) cs
unfolding Spells
followed-to never b cs s = absurd s.2
followed-to nothing b cs s =
    let e : cs ≡ s.1 = s.4 ∙ ap (λ f. f ++ s.1) s.2 in
    subst (λ xs. Spells b xs) (sym e) s.3
followed-to (one set) b cs s = s
followed-to (seq x y) b cs s = s
followed-to (alt x y) b cs s = s
followed-to (many x) b cs s = s

followed-from : (a b : Form) (cs : List ℕ) → Spells (followed a b) cs → Spells (seq a b) cs
unfolding Spells
followed-from never b cs s = absurd s
followed-from nothing b cs s = ([], cs, refl, s, refl)
followed-from (one set) b cs s = s
followed-from (seq x y) b cs s = s
followed-from (alt x y) b cs s = s
followed-from (many x) b cs s = s

or_else-to : (a b : Form) (cs : List ℕ) → Spells (alt a b) cs → Spells (or_else a b) cs
unfolding Spells
or_else-to a never cs s = elim s [ inl x ↦ x | inr y ↦ absurd y ]
or_else-to a nothing cs s = s
or_else-to a (one set) cs s = s
or_else-to a (seq x y) cs s = s
or_else-to a (alt x y) cs s = s
or_else-to a (many x) cs s = s

or_else-from : (a b : Form) (cs : List ℕ) → Spells (or_else a b) cs → Spells (alt a b) cs
unfolding Spells
or_else-from a never cs s = inl s
or_else-from a nothing cs s = s
or_else-from a (one set) cs s = s
or_else-from a (seq x y) cs s = s
or_else-from a (alt x y) cs s = s
or_else-from a (many x) cs s = s

either-to : (a b : Form) (cs : List ℕ) → Spells (alt a b) cs → Spells (either a b) cs
unfolding Spells
either-to never b cs s = elim s [ inl x ↦ absurd x | inr y ↦ y ]
either-to nothing b cs s = or_else-to nothing b cs s
either-to (one set) b cs s = or_else-to (one set) b cs s
either-to (seq x y) b cs s = or_else-to (seq x y) b cs s
either-to (alt x y) b cs s = or_else-to (alt x y) b cs s
either-to (many x) b cs s = or_else-to (many x) b cs s

either-from : (a b : Form) (cs : List ℕ) → Spells (either a b) cs → Spells (alt a b) cs
unfolding Spells
either-from never b cs s = inr s
either-from nothing b cs s = or_else-from nothing b cs s
either-from (one set) b cs s = or_else-from (one set) b cs s
either-from (seq x y) b cs s = or_else-from (seq x y) b cs s
either-from (alt x y) b cs s = or_else-from (alt x y) b cs s
either-from (many x) b cs s = or_else-from (many x) b cs s

-- nothing but empty lists make an empty list
front_is_nil : (front back : List ℕ) → [] ≡ front ++ back → front ≡ []
front_is_nil [] back e = refl
front_is_nil (c ∷ front) back e = absurd (cc)

back_is_nil : (front back : List ℕ) → [] ≡ front ++ back → back ≡ []
back_is_nil [] back e = sym e
back_is_nil (c ∷ front) back e = absurd (cc)

or_left : (x y : Bool) → x ≡ true → (x || y) ≡ true
or_left true y e = refl
or_left false y e = cc

or_right : (x y : Bool) → y ≡ true → (x || y) ≡ true
or_right true y e = refl
or_right false y e = e

-- the empty text
ends-to : (form : Form) → Spells form [] → may_end form ≡ true
unfolding Spells
ends-to never s = absurd s
ends-to nothing s = refl
ends-to (one set) s = let e : [] ≡ s.0 ∷ [] = s.2 in cc
ends-to (seq a b) s =
    and_from (may_end a) (may_end b)
    (ends-to a (subst (λ xs. Spells a xs) (front_is_nil s.0 s.1 s.4) s.2))
    (ends-to b (subst (λ xs. Spells b xs) (back_is_nil s.0 s.1 s.4) s.3))
ends-to (alt a b) s =
    elim s [ inl x ↦ or_left (may_end a) (may_end b) (ends-to a x) | inr y ↦ or_right (may_end a) (may_end b) (ends-to b y) ]
ends-to (many a) s = refl

ends-from : (form : Form) → may_end form ≡ true → Spells form []
unfolding Spells
ends-from never e = cc
ends-from nothing e = refl
ends-from (one set) e = cc
ends-from (seq a b) e =
    let parts = and_parts (may_end a) (may_end b) e in
    ([], [], ends-from a parts.0, ends-from b parts.1, refl)
ends-from (alt a b) e =
    elim (or_cases (may_end a) (may_end b) e) [ inl x ↦ inl (ends-from a x) | inr y ↦ inr (ends-from b y) ]
ends-from (many a) e = ([], tt, refl)

-- how both forms of a row lose a character
module _ (a b : Form) (c : ℕ)
    (ha : (xs : List ℕ) → Spells a (c ∷ xs) → Spells (after a c) xs)
    (hb : (xs : List ℕ) → Spells b (c ∷ xs) → Spells (after b c) xs) where
  seq_after-to : (cs front back : List ℕ) → Spells a front → Spells b back → c ∷ cs ≡ front ++ back → Spells (after (seq a b) c) cs
  unfolding Spells
  seq_after-to cs [] back x y e =
      subst (λ (t : Bool). Spells (if t then either (followed (after a c) b) (after b c) else followed (after a c) b) cs)
      (sym (ends-to a x))
      (either-to (followed (after a c) b) (after b c) cs (inr (hb cs (subst (λ xs. Spells b xs) (sym e) y))))
  seq_after-to cs (d ∷ front) back x y e =
      let same : c ≡ d = cc in
      let rest : cs ≡ front ++ back = cc in
      let left : Spells (followed (after a c) b) cs =
      followed-to (after a c) b cs (front, back, ha front (subst (λ z. Spells a (z ∷ front)) (sym same) x), y, rest) in
      elim (may_end a) as (λ (t : Bool). Spells (if t then either (followed (after a c) b) (after b c) else followed (after a c) b) cs)
      [ true ↦ either-to (followed (after a c) b) (after b c) cs (inl left) | false ↦ left ]

  many_after-to : (cs : List ℕ) (parts : List (List ℕ)) → AllByRecursion (Spells a) parts → c ∷ cs ≡ joined parts → Spells (after (many a) c) cs
  unfolding Spells
  many_after-to cs [] all e = cc
  many_after-to cs ([] ∷ parts) all e = many_after-to cs parts all.1 e
  many_after-to cs ((d ∷ front) ∷ parts) all e =
      let same : c ≡ d = cc in
      let rest : cs ≡ front ++ joined parts = cc in
      followed-to (after a c) (many a) cs
      (front, joined parts, ha front (subst (λ z. Spells a (z ∷ front)) (sym same) all.0), (parts, all.1, refl), rest)

after-to : (form : Form) (c : ℕ) (cs : List ℕ) → Spells form (c ∷ cs) → Spells (after form c) cs
unfolding Spells
after-to never c cs s = absurd s
after-to nothing c cs s = let e : c ∷ cs ≡ [] = s in cc
after-to (one set) c cs s =
    let e : c ∷ cs ≡ s.0 ∷ [] = s.2 in
    let same : c ≡ s.0 = cc in
    let rest : cs ≡ [] = cc in
    let h : has set c ≡ true = ap (has set) same ∙ s.1 in
    subst (λ (t : Bool). Spells (if t then nothing else never) cs) (sym h) rest
after-to (seq a b) c cs s = seq_after-to a b c (after-to a c) (after-to b c) cs s.0 s.1 s.2 s.3 s.4
after-to (alt a b) c cs s =
    either-to (after a c) (after b c) cs (elim s [ inl x ↦ inl (after-to a c cs x) | inr y ↦ inr (after-to b c cs y) ])
after-to (many a) c cs s = many_after-to a a c (after-to a c) (after-to a c) cs s.0 s.1 s.2

-- and how they get it back
module _ (a b : Form) (c : ℕ)
    (ha : (xs : List ℕ) → Spells (after a c) xs → Spells a (c ∷ xs))
    (hb : (xs : List ℕ) → Spells (after b c) xs → Spells b (c ∷ xs)) where
  followed_after-from : (cs : List ℕ) → Spells (followed (after a c) b) cs → Spells (seq a b) (c ∷ cs)
  unfolding Spells
  followed_after-from cs s =
      let t : Spells (seq (after a c) b) cs = followed-from (after a c) b cs s in
      (c ∷ t.0, t.1, ha t.0 t.2, t.3, ap (λ xs. c ∷ xs) t.4)

  seq_after-from : (cs : List ℕ) → Spells (after (seq a b) c) cs → Spells (seq a b) (c ∷ cs)
  unfolding Spells
  seq_after-from cs s =
      elim (cases_Bool (may_end a)) [
        | inl e ↦
            (let t : Spells (either (followed (after a c) b) (after b c)) cs =
            subst (λ (t : Bool). Spells (if t then either (followed (after a c) b) (after b c) else followed (after a c) b) cs) e s in
            elim (either-from (followed (after a c) b) (after b c) cs t)
            [ inl x ↦ followed_after-from cs x | inr y ↦ ([], c ∷ cs, ends-from a e, hb cs y, refl) ])
        | inr e ↦ followed_after-from cs
            (subst (λ (t : Bool). Spells (if t then either (followed (after a c) b) (after b c) else followed (after a c) b) cs) e s)
      ]

after-from : (form : Form) (c : ℕ) (cs : List ℕ) → Spells (after form c) cs → Spells form (c ∷ cs)
unfolding Spells
after-from never c cs s = absurd s
after-from nothing c cs s = absurd s
after-from (one set) c cs s =
    elim (cases_Bool (has set c)) [
      | inl e ↦
          (let t : cs ≡ [] = subst (λ (t : Bool). Spells (if t then nothing else never) cs) e s in
          (c, e, ap (λ xs. c ∷ xs) t))
      | inr e ↦ absurd (subst (λ (t : Bool). Spells (if t then nothing else never) cs) e s)
    ]
after-from (seq a b) c cs s = seq_after-from a b c (after-from a c) (after-from b c) cs s
after-from (alt a b) c cs s =
    elim (either-from (after a c) (after b c) cs s) [ inl x ↦ inl (after-from a c cs x) | inr y ↦ inr (after-from b c cs y) ]
after-from (many a) c cs s =
    let t : Spells (seq (after a c) (many a)) cs = followed-from (after a c) (many a) cs s in
    ((c ∷ t.0) ∷ t.3.0, (after-from a c t.0 t.2, t.3.1), ap (λ xs. c ∷ xs) (t.4 ∙ ap (λ ys. t.0 ++ ys) t.3.2))

-- the test is the fact
pub spells-exactly : (form : Form) (cs : List ℕ) → (spells form cs ≡ true) ↔ Spells form cs
unfolding spells
spells-exactly form [] = (ends-from form, ends-to form)
spells-exactly form (c ∷ cs) =
    let rest = spells-exactly (after form c) cs in
    (λ e. after-from form c cs (rest.0 e), λ s. rest.1 (after-to form c cs s))

-- the characters of two texts in a row
scalars_front : (front back : List ℕ) → all_scalars (front ++ back) ≡ true → all_scalars front ≡ true
scalars_front [] back e = refl
scalars_front (c ∷ front) back e =
    let parts = and_parts (scalar c) (all_scalars (front ++ back)) e in
    and_from (scalar c) (all_scalars front) parts.0 (scalars_front front back parts.1)

scalars_back : (front back : List ℕ) → all_scalars (front ++ back) ≡ true → all_scalars back ≡ true
scalars_back [] back e = e
scalars_back (c ∷ front) back e = scalars_back front back (and_parts (scalar c) (all_scalars (front ++ back)) e).1

scalars_append : (front back : List ℕ) → all_scalars front ≡ true → all_scalars back ≡ true → all_scalars (front ++ back) ≡ true
scalars_append [] back f b = b
scalars_append (c ∷ front) back f b =
    let parts = and_parts (scalar c) (all_scalars front) f in
    and_from (scalar c) (all_scalars (front ++ back)) parts.0 (scalars_append front back parts.1 b)

-- a character that is neither of two
is_other : (x c d : ℕ) → (x ≡ c → ⊥) → (x ≡ d → ⊥) → has (other_than c d) x ≡ true
is_other x c d p q =
    let first : (x == c) ≡ false = ne_eqb x c p in
    let second : (x == d) ≡ false = ne_eqb x d q in
    rw (first, second) refl

some_other : (c d : ℕ) → (x : ℕ) × (all_scalars (x ∷ []) ≡ true) × (has (other_than c d) x ≡ true)
some_other c d =
    elim (cases_eq 0 c) [
      | inl c0 ↦ elim (cases_eq 1 d)
          [ inl d1 ↦ (2, refl, is_other 2 c d (omega arith) (omega arith)) | inr d1 ↦ (1, refl, is_other 1 c d (omega arith) d1) ]
      | inr c0 ↦ elim (cases_eq 0 d) [
        | inl d0 ↦ elim (cases_eq 1 c)
            [ inl c1 ↦ (2, refl, is_other 2 c d (omega arith) (omega arith)) | inr c1 ↦ (1, refl, is_other 1 c d c1 (omega arith)) ]
        | inr d0 ↦ (0, refl, is_other 0 c d c0 d0)
      ]
    ]

set_some : (set : Set) → has_some set ≡ true → (x : ℕ) × (all_scalars (x ∷ []) ≡ true) × (has set x ≡ true)
unfolding is_space is_name_start is_name_char
set_some space e = (32, refl, refl)
set_some name_start e = (65, refl, refl)
set_some name_char e = (65, refl, refl)
set_some (only c) e = (c, e, eq-eqb c c refl)
set_some (other_than c d) e = some_other c d

set_has : (set : Set) (c : ℕ) → all_scalars (c ∷ []) ≡ true → has set c ≡ true → has_some set ≡ true
set_has space c u h = refl
set_has name_start c u h = refl
set_has name_char c u h = refl
set_has (only d) c u h = let same : c ≡ d = eqb-true c d h in subst (λ x. all_scalars (x ∷ []) ≡ true) same u
set_has (other_than d e) c u h = refl

-- a form is possible exactly where it spells some text
possible-to : (form : Form) (cs : List ℕ) → all_scalars cs ≡ true → Spells form cs → is_possible form ≡ true
unfolding Spells
possible-to never cs u s = absurd s
possible-to nothing cs u s = refl
possible-to (one set) cs u s = set_has set s.0 (ap all_scalars (sym s.2) ∙ u) s.1
possible-to (seq a b) cs u s =
    let parts : all_scalars (s.0 ++ s.1) ≡ true = ap all_scalars (sym s.4) ∙ u in
    and_from (is_possible a) (is_possible b)
    (possible-to a s.0 (scalars_front s.0 s.1 parts) s.2)
    (possible-to b s.1 (scalars_back s.0 s.1 parts) s.3)
possible-to (alt a b) cs u s =
    elim s [ inl x ↦ or_left (is_possible a) (is_possible b) (possible-to a cs u x) | inr y ↦ or_right (is_possible a) (is_possible b) (possible-to b cs u y) ]
possible-to (many a) cs u s = refl

possible-from : (form : Form) → is_possible form ≡ true → (cs : List ℕ) × (all_scalars cs ≡ true) × Spells form cs
unfolding Spells
possible-from never e = cc
possible-from nothing e = ([], refl, refl)
possible-from (one set) e = let t = set_some set e in (t.0 ∷ [], t.1, (t.0, t.2, refl))
possible-from (seq a b) e =
    let parts = and_parts (is_possible a) (is_possible b) e in
    let x = possible-from a parts.0 in
    let y = possible-from b parts.1 in
    (x.0 ++ y.0, scalars_append x.0 y.0 x.1 y.1, (x.0, y.0, x.2, y.2, refl))
possible-from (alt a b) e =
    elim (or_cases (is_possible a) (is_possible b) e)
    [ inl x ↦ (let t = possible-from a x in (t.0, t.1, inl t.2)) | inr y ↦ (let t = possible-from b y in (t.0, t.1, inr t.2)) ]
possible-from (many a) e = ([], refl, ([], tt, refl))

pub begins-exactly : (form : Form) (cs : List ℕ) → (begins form cs ≡ true) ↔ ((rest : List ℕ) × (all_scalars rest ≡ true) × Spells form (cs ++ rest))
unfolding begins
begins-exactly form [] = (possible-from form, λ t. possible-to form t.0 t.1 t.2)
begins-exactly form (c ∷ cs) =
    let rest = begins-exactly (after form c) cs in (
      λ e. (let t = rest.0 e in (t.0, t.1, after-from form c (cs ++ t.0) t.2)),
      λ t. rest.1 (t.0, t.1, after-to form c (cs ++ t.0) t.2),
    )
