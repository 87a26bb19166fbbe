-- Lists of things with names: the names behind the first 32, and where names stand.
use Rattle.std.proofs.Common.{◌≡◌, ◌↔◌, ℕ, suc, ◌+◌, ◌-◌, ◌<◌, ◌≤◌, Bool, true, false, cond, Option, Some, None, inl, inr, List, [], ◌∷◌, ◌++◌, length, take, drop, map, get_or, refl, ap, sym, ◌∙◌, arith}
use Rattle.std.specs.Prelude.{nat_le, slice_get, IfSome, IsTrue, ◌^◌}
use Rattle.std.specs.Option.{option_and_then, option_map}
use Rattle.std.specs.Str.{bytes_eq}
use Rattle.std.proofs.Math.Seq.{take-suc}
use Rattle.std.proofs.lemmas.Bool.{cases_Bool}
use Rattle.std.proofs.lemmas.Bool.Decides.{nat_tests}
use Rattle.std.proofs.lemmas.Grind.{common_steps}
use Rattle.std.proofs.lemmas.Option.{slice_get-get_or}
use Rattle.std.proofs.lemmas.Slice.Eq.{bytes_eq-Decides}
use Rattle.std.proofs.lemmas.List.{map-append, length-append, length-map, length-drop, length-take-le, take-append-le, take-append-drop, drop-append-le}
use Rattle.nx_events.specs.Items.{one_more, around_innermost}
use Rattle.nx_events.specs.Scopes.{or_else, last_uri}
use Rattle.nx_events.specs.Places.{last_place, last_named, behind_those, one_name_more, one_name_less}
use Rattle.nx_events.specs.declared.scope.Binding.{Binding}
use Rattle.nx_events.specs.declared.state.OpenElement.{OpenElement}
use Rattle.nx_events.proofs.Places.{last_place-push}

-- one more, and one less
less_of_more : (len : ℕ) (names : List (List ℕ)) (name : List ℕ) → one_name_less len (one_name_more len names name) ≡ names
less_of_more len names name = by_test (nat_le 32 len)
  where
    shorter : take (length (names ++ name ∷ []) - 1) (names ++ name ∷ []) ≡ names
    shorter =
        let size : length (names ++ name ∷ []) - 1 ≡ length names = (let k = length-append names (name ∷ []) in omega arith) in
        ap (λ n. take n (names ++ name ∷ [])) size ∙ take-append-le (length names) names (name ∷ []) (omega arith) ∙ whole names
      where
        whole : (xs : List (List ℕ)) → take (length xs) xs ≡ xs
        whole xs = grind (arith, common_steps)

    by_test : (t : Bool) → cond t (take (length (cond t (names ++ name ∷ []) names) - 1) (cond t (names ++ name ∷ []) names)) (cond t (names ++ name ∷ []) names) ≡ names
    by_test true = shorter
    by_test false = refl

at_least : (n : ℕ) → nat_le 32 n ≡ true → 32 ≤ n
at_least n e = grind (arith, nat_tests)

at_most : (n : ℕ) → nat_le 32 n ≡ false → n < 32
at_most n e = grind (arith, nat_tests)

none_after : {T : Type 0} (n : ℕ) (xs : List T) → length xs ≤ n → drop n xs ≡ []
none_after n xs h = grind (arith, common_steps)

pub all_before : {T : Type 0} (n : ℕ) (xs : List T) → length xs ≤ n → xs ≡ take n xs
all_before n xs h = grind (arith, common_steps)

module _ {T : Type 0} (f : T → List ℕ) where
  more_by : (xs : List T) (x : T) (t : Bool) → nat_le 32 (length xs) ≡ t → behind_those f (xs ++ x ∷ []) ≡ cond t (behind_those f xs ++ f x ∷ []) (behind_those f xs)
  more_by xs x true e = ap (map f) (drop-append-le 32 xs (x ∷ []) (at_least (length xs) e)) ∙ map-append f (drop 32 xs) (x ∷ [])
  more_by xs x false e =
      let size = length-append xs (x ∷ []) in
      let few = at_most (length xs) e in
      ap (map f) (none_after 32 (xs ++ x ∷ []) (omega arith)) ∙ sym (ap (map f) (none_after 32 xs (omega arith)))

  pub behind_more : (xs : List T) (x : T) → behind_those f (xs ++ x ∷ []) ≡ one_name_more (length xs) (behind_those f xs) (f x)
  behind_more xs x = more_by xs x (nat_le 32 (length xs)) refl

  pub behind_less : (xs : List T) (x : T) → one_name_less (length xs) (behind_those f (xs ++ x ∷ [])) ≡ behind_those f xs
  behind_less xs x = ap (one_name_less (length xs)) (behind_more xs x) ∙ less_of_more (length xs) (behind_those f xs) (f x)

  -- so the names follow a list that gets one thing more, or loses its last one
  pub pushed_names : (items new : List T) (x : T) (inner after : List (List ℕ)) (len : ℕ) (name : List ℕ) → inner ≡ behind_those f items → len ≡ length items →
      name ≡ f x → new ≡ items ++ x ∷ [] → after ≡ one_name_more len inner name → after ≡ behind_those f new
  pushed_names items new x inner after len name i l n e a =
      a ∙ ap (λ k. one_name_more k inner name) l ∙ ap (λ ns. one_name_more (length items) ns name) i ∙ ap (one_name_more (length items) (behind_those f items)) n
      ∙ sym (behind_more items x) ∙ ap (behind_those f) (sym e)

  -- a copy of few things has none
  pub few_copied : (self items new : List T) (inner : List (List ℕ)) (len : ℕ) → items ≡ self → new ≡ items → len ≡ length self → len ≤ 32 → inner ≡ [] →
      inner ≡ behind_those f new
  few_copied self items new inner len v e l h i =
      let same : length new ≡ length self = ap length (e ∙ v) in
      i ∙ sym (ap (map f) (none_after 32 new (omega (arith, same, l, h))))

  popped_names : (items rest : List T) (x : T) (inner after : List (List ℕ)) (len : ℕ) → inner ≡ behind_those f items → len ≡ length rest →
      items ≡ rest ++ x ∷ [] → after ≡ one_name_less len inner → after ≡ behind_those f rest
  popped_names items rest x inner after len i l e a =
      a ∙ ap (λ k. one_name_less k inner) l ∙ ap (one_name_less (length rest)) (i ∙ ap (behind_those f) e) ∙ behind_less rest x

  pub shortened_names : (items rest : List T) (inner after : List (List ℕ)) (len : ℕ) → inner ≡ behind_those f items → len ≡ length items → 0 < len →
      rest ≡ take (length items - 1) items → after ≡ one_name_less (len - 1) inner → after ≡ behind_those f rest
  shortened_names [] rest inner after len i l h r a = absurd (omega (arith, l, h))
  shortened_names (y ∷ ys) rest inner after len i l h r a =
      let xs : List T = y ∷ ys in
      let x : T = get_or xs (len - 1) y in
      let one : suc (len - 1) ≡ length xs = omega (arith, l, h) in
      let less : len - 1 ≡ length xs - 1 = ap (λ n. n - 1) l in
      let cut : xs ≡ rest ++ x ∷ [] =
      all_before (length xs) xs (omega arith) ∙ ap (λ n. take n xs) (sym one) ∙ take-suc xs (len - 1) y (omega (arith, l, h))
      ∙ ap (λ n. take n xs ++ x ∷ []) less ∙ ap (λ (zs : List T). zs ++ x ∷ []) (sym r) in
      let size : len - 1 ≡ length rest = less ∙ sym (length-take-le (length xs - 1) xs (omega arith)) ∙ ap length (sym r) in
      popped_names xs rest x inner after (len - 1) i size cut a

  -- the last of the first n
  pub last_of_front : (name : List ℕ) (xs : List T) (n : ℕ) (x : T) (t : Bool) → 0 < n → n ≤ length xs → x ≡ get_or xs (n - 1) x → bytes_eq (f x) name ≡ t →
      last_place name (map f (take n xs)) ≡ cond t (Some (n - 1)) (last_place name (map f (take (n - 1) xs)))
  last_of_front name xs n x t h k e g =
      let one : n ≡ suc (n - 1) = omega arith in
      let cut : take n xs ≡ take (n - 1) xs ++ x ∷ [] = ap (λ (m : ℕ). take m xs) one ∙ take-suc xs (n - 1) x (omega arith) ∙ ap (λ (c : T). take (n - 1) xs ++ c ∷ []) (sym e) in
      let size : length (map f (take (n - 1) xs)) ≡ n - 1 = length-map (take (n - 1) xs) f ∙ length-take-le (n - 1) xs (omega arith) in
      ap (λ ys. last_place name (map f ys)) cut ∙ ap (last_place name) (map-append f (take (n - 1) xs) (x ∷ []))
      ∙ last_place-push name (map f (take (n - 1) xs)) (f x)
      ∙ ap (λ (u : Bool). cond u (Some (length (map f (take (n - 1) xs)))) (last_place name (map f (take (n - 1) xs)))) g
      ∙ ap (λ (m : ℕ). cond t (Some m) (last_place name (map f (take (n - 1) xs)))) size

-- names that were compared one way or the other
pub same_is : (xs ys : List ℕ) (t : Bool) → (IsTrue t ↔ (xs ≡ ys)) → bytes_eq xs ys ≡ t
same_is xs ys true h = (bytes_eq-Decides xs ys).1 (h.0 refl)
same_is xs ys false h =
    elim (cases_Bool (bytes_eq xs ys)) [
      | inl e ↦ absurd (let bad : false ≡ true = h.1 ((bytes_eq-Decides xs ys).0 e) in cc)
      | inr e ↦ e
    ]

pub last_of_none : (name : List ℕ) → last_place name [] ≡ None
unfolding last_place
last_of_none name = refl

-- names of two lists, one behind the other
shifted : ℕ → Option ℕ → Option ℕ
shifted k None = None
shifted k (Some n) = Some (k + n)

shifted_none : (o : Option ℕ) → o ≡ or_else (shifted 0 o) None
unfolding shifted
shifted_none None = refl
shifted_none (Some n) = let e : n ≡ 0 + n = omega arith in ap Some e

shifted_more : (k : ℕ) (o p : Option ℕ) → one_more (or_else (shifted k o) p) ≡ or_else (shifted (suc k) o) (one_more p)
unfolding shifted
shifted_more k None p = refl
shifted_more k (Some n) p = let e : suc (k + n) ≡ suc k + n = omega arith in ap Some e

or_else_chain : (a b c : Option ℕ) → or_else (or_else a b) c ≡ or_else a (or_else b c)
or_else_chain (Some x) b c = refl
or_else_chain None b c = refl

last_place-append : (name : List ℕ) (xs ys : List (List ℕ)) → last_place name (xs ++ ys) ≡ or_else (shifted (length xs) (last_place name ys)) (last_place name xs)
unfolding last_place
last_place-append name [] ys = shifted_none (last_place name ys)
last_place-append name (x ∷ xs) ys =
    let here : Option ℕ = cond (bytes_eq x name) (Some 0) None in
    ap (λ (o : Option ℕ). or_else (one_more o) here) (last_place-append name xs ys)
    ∙ ap (λ (o : Option ℕ). or_else o here) (shifted_more (length xs) (last_place name ys) (last_place name xs))
    ∙ or_else_chain (shifted (suc (length xs)) (last_place name ys)) (one_more (last_place name xs)) here

-- a place is one of the list
less_by : (inner : List (List ℕ)) (n : ℕ) (o : Option ℕ) → ((m : ℕ) → o ≡ Some m → m < length inner) → (t : Bool) →
    or_else (one_more o) (cond t (Some 0) None) ≡ Some n → n < suc (length inner)
less_by inner n (Some m) h t e = let k : suc m ≡ n = cc in let l = h m refl in omega arith
less_by inner n None h true e = let k : 0 ≡ n = cc in omega arith
less_by inner n None h false e = let k : None ≡ Some n = e in absurd (cc)

pub last_less : (name : List ℕ) (xs : List (List ℕ)) (n : ℕ) → last_place name xs ≡ Some n → n < length xs
unfolding last_place
last_less name [] n e = let k : None ≡ Some n = e in absurd (cc)
last_less name (x ∷ xs) n e = less_by xs n (last_place name xs) (λ m h. last_less name xs m h) (bytes_eq x name) e

pub named_within : {T : Type 0} (f : T → List ℕ) (name : List ℕ) (xs : List T) (o : Option ℕ) → o ≡ last_place name (map f xs) → IfSome o (λ n. n < length xs)
named_within f name xs None e = tt
named_within f name xs (Some n) e = let k = last_less name (map f xs) n (sym e) in let size = length-map xs f in omega arith

pub last_small : (name : List ℕ) (xs : List (List ℕ)) (o : Option ℕ) → o ≡ last_place name xs → length xs < 2 ^ 63 → IfSome o (λ n. n < 2 ^ 63)
last_small name xs None e h = tt
last_small name xs (Some n) e h = let k = last_less name xs n (sym e) in omega arith

module _ {T : Type 0} (f : T → List ℕ) (name : List ℕ) (xs : List T) where
  parted : last_place name (map f xs) ≡ or_else (shifted (length (map f (take 32 xs))) (last_place name (behind_those f xs))) (last_place name (map f (take 32 xs)))
  parted =
      ap (λ ys. last_place name (map f ys)) (sym (take-append-drop 32 xs)) ∙ ap (last_place name) (map-append f (take 32 xs) (drop 32 xs))
      ∙ last_place-append name (map f (take 32 xs)) (behind_those f xs)

  -- a name that stands behind the first ones stands last there
  pub found_behind : (n : ℕ) → last_place name (behind_those f xs) ≡ Some n → (last_place name (map f xs) ≡ Some (32 + n)) × (32 + n < length xs)
  unfolding shifted
  found_behind n e =
      let less = last_less name (behind_those f xs) n e in
      let size : length (behind_those f xs) ≡ length (drop 32 xs) = length-map (drop 32 xs) f in
      let rest : length (drop 32 xs) ≡ length xs - 32 = length-drop 32 xs in
      let many : length (map f (take 32 xs)) ≡ 32 = length-map (take 32 xs) f ∙ length-take-le 32 xs (omega arith) in (
        parted ∙ ap (λ (o : Option ℕ). or_else (shifted (length (map f (take 32 xs))) o) (last_place name (map f (take 32 xs)))) e ∙ ap (λ k. Some (k + n)) many,
        omega arith,
      )

  -- otherwise it stands where it does among those
  pub not_behind : last_place name (behind_those f xs) ≡ None → last_place name (map f xs) ≡ last_place name (map f (take 32 xs))
  unfolding shifted
  not_behind e = parted ∙ ap (λ (o : Option ℕ). or_else (shifted (length (map f (take 32 xs))) o) (last_place name (map f (take 32 xs)))) e

-- open elements by their names, and bindings by their prefixes
pub innermost_is : (name : List ℕ) (xs : List OpenElement) → around_innermost name xs ≡ last_place name (map (λ (e : OpenElement). e.written) xs)
unfolding around_innermost last_place
innermost_is name [] = refl
innermost_is name (x ∷ xs) = ap (λ (o : Option ℕ). or_else (one_more o) (cond (bytes_eq x.written name) (Some 0) None)) (innermost_is name xs)

uri_by : (x : Binding) (xs : List Binding) (t : Bool) (o : Option ℕ) → ((n : ℕ) → o ≡ Some n → n < length xs) →
    or_else (option_map (λ (b : Binding). b.uri) (option_and_then (slice_get xs) o)) (cond t (Some x.uri) None)
    ≡ option_map (λ (b : Binding). b.uri) (option_and_then (slice_get (x ∷ xs)) (or_else (one_more o) (cond t (Some 0) None)))
uri_by x xs true None h = refl
uri_by x xs false None h = refl
uri_by x xs t (Some n) h = there (slice_get xs n) (slice_get-get_or xs n x (h n refl))
  where
    there : (o : Option Binding) → o ≡ Some (get_or xs n x) → or_else (option_map (λ (b : Binding). b.uri) o) (cond t (Some x.uri) None) ≡ option_map (λ (b : Binding). b.uri) o
    there None e = let k : None ≡ Some (get_or xs n x) = e in absurd (cc)
    there (Some b) e = refl

pub last_uri_is : (xs : List Binding) (prefix : List ℕ) → last_uri xs prefix ≡ option_map (λ (b : Binding). b.uri) (last_named (λ (b : Binding). b.prefix) prefix xs)
unfolding last_uri last_place
last_uri_is [] prefix = refl
last_uri_is (x ∷ xs) prefix =
    let names = map (λ (b : Binding). b.prefix) xs in
    ap (λ (o : Option (List ℕ)). or_else o (cond (bytes_eq x.prefix prefix) (Some x.uri) None)) (last_uri_is xs prefix)
    ∙ uri_by x xs (bytes_eq x.prefix prefix) (last_place prefix names) (λ n e. bound n e)
  where
    bound : (n : ℕ) → last_place prefix (map (λ (b : Binding). b.prefix) xs) ≡ Some n → n < length xs
    bound n e = let k = last_less prefix (map (λ (b : Binding). b.prefix) xs) n e in let size = length-map xs (λ (b : Binding). b.prefix) in omega arith
